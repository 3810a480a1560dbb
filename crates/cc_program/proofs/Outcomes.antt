-- What a call comes to that read a job and carried its commands out.
use Rattle.std.proofs.Common.{◌≡◌, Bool, [], Err, Ok, sym, subst}
use Rattle.cc_io.specs.Wholes.{AppendsFront, WritesWhole}
use Rattle.cc_io.specs.declared.whole.WriteAll.{WriteAll}
use Rattle.cc_io.specs.declared.whole.WriteAll.TheVariants as errors
use Rattle.cc_job.specs.declared.job.Job.{Job}
use Rattle.cc_replies.specs.Outputs.{IsOutput}
use Rattle.cc_replies.specs.Requests.{no_module}
use Rattle.cc_answers.specs.Carried.{AreAnswered}
use Rattle.cc_program.specs.Outcome.{Ends, ReadsJob, IsCarriedOut, IsCutOff}
use Rattle.cc_answers.specs.Requests.{requests_of}

module _ (before after : Ends) (job : Job) (read : ReadsJob before after job) where
  pub carried_out : (refused : Bool)
      → AreAnswered job.devices no_module [] (requests_of job) before.written after.written before.judged after.judged (Ok refused)
      → after.write_faults ≡ before.write_faults → IsCarriedOut before after job refused
  carried_out refused answered no_fault = record {
    read = read;
    text = answered.text;
    output = subst (IsOutput job.devices no_module (requests_of job) answered.text) (sym answered.answer) answered.output;
    written = answered.written;
    no_fault = no_fault;
    judges = record { sum = answered.sum; stale = answered.stale; few = answered.few };
  }

  front : (error : WriteAll)
      → (answered : AreAnswered job.devices no_module [] (requests_of job) before.written after.written before.judged after.judged (Err error))
      → AppendsFront before.written after.written answered.text
  front errors.WriteFault answered = answered.written
  front errors.NoMemory answered = answered.written

  pub cut_off : (error : WriteAll)
      → AreAnswered job.devices no_module [] (requests_of job) before.written after.written before.judged after.judged (Err error)
      → IsCutOff before after job
  cut_off error answered = record {
    read = read;
    text = answered.text;
    refused = answered.refused;
    output = answered.output;
    written = front error answered;
    judges = record { sum = answered.sum; stale = answered.stale; few = answered.few };
  }
