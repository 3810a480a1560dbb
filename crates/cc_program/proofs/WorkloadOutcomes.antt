-- What a call comes to that carries a workload out.
use Rattle.std.proofs.Common.{◌≡◌, ◌↔◌, ℕ, ◌<◌, ◌≤◌, Bool, true, false, List, [], Option, Some, Ok, Err, refl, sym, ap, ◌∙◌, subst, inl, inr, arith}
use Rattle.std.specs.Prelude.{Result}
use Rattle.cc_io.specs.Wholes.{AppendsFront, WritesWhole}
use Rattle.cc_io.specs.declared.whole.WriteAll.{WriteAll}
use Rattle.cc_io.specs.declared.whole.WriteAll.TheVariants as errors
use Rattle.cc_job.specs.declared.job.Job.{Job}
use Rattle.cc_replies.specs.Requests.{no_module}
use Rattle.cc_summary.specs.Summaries.{summary_text}
use Rattle.cc_replies.proofs.OutputLaws.{outputs_are_unique}
use Rattle.cc_replies.specs.Outputs.{IsOutput}
use Rattle.cc_workload.specs.Workloads.{workload, DevicesDiffer}
use Rattle.cc_workload_outputs.specs.WorkloadOutputs.{workload_output, WorkloadsEndClean}
use Rattle.cc_program.specs.declared.status.Status.{Status}
use Rattle.cc_program.specs.declared.status.Status.TheVariants as statuses
use Rattle.cc_answers.specs.Carried.{AreAnswered}
use Rattle.cc_program.specs.Exactness.{status_of, AWorkloadIsSummarized, AFaultOfAWorkloadIsTold}
use Rattle.cc_program.specs.Outcome.{Ends, JudgesStale}
use Rattle.cc_answers.specs.Requests.{requests_of}
use Rattle.cc_program.specs.WorkloadOutcome.{IsOutputOf, IsSummarized, IsSummaryCutOff, LacksMemoryToSummarize}
use Rattle.cc_answers.proofs.Answering.{answered_nothing, none_present}
use Rattle.cc_answers.proofs.OutputFronts.{WritesWhole-none}

-- The job of the workload was carried out into a sink that had nothing and has `now`, or that failed.
abbrev pub WasAnswered : ℕ → (now : List ℕ) → (before after : ℕ) → Result Bool WriteAll → Type 0
WasAnswered number now before after result =
    AreAnswered (workload number).devices no_module [] (requests_of (workload number)) (Some []) (Some now) before after result

-- so it was where the job is that of the workload, and the sink is one to which nothing was written
pub answered_as : (job : Job) (number : ℕ) → job ≡ workload number → (old now : List ℕ) → Some old ≡ Some [] → (before after : ℕ)
    (result : Result Bool WriteAll)
    → AreAnswered job.devices no_module [] (requests_of job) (Some old) (Some now) before after result
    → WasAnswered number now before after result
answered_as job number is old now empty before after result answered =
    let P : Job → Type 0 = λ j. AreAnswered j.devices no_module [] (requests_of j) (Some []) (Some now) before after result in
    let Q : Option (List ℕ) → Type 0 = λ o. AreAnswered job.devices no_module [] (requests_of job) o (Some now) before after result in
    subst P is (subst Q empty answered)

-- no reply tells of a refusal
module _ (clean : WorkloadsEndClean) (number : ℕ) (low : 1 ≤ number) (high : number ≤ 200) where
  pub one_output : (text : List ℕ) (refused : Bool)
      → IsOutput (workload number).devices no_module (requests_of (workload number)) text refused
      → (text ≡ workload_output number) × (refused ≡ false)
  one_output text refused output =
      outputs_are_unique (workload number).devices no_module (requests_of (workload number)) text (workload_output number) refused false none_present
      output (clean number low high)

  own_output : (text : List ℕ) (refused : Bool)
      → IsOutput (workload number).devices no_module (requests_of (workload number)) text refused → IsOutputOf number text
  own_output text refused output =
      subst (IsOutput (workload number).devices no_module (requests_of (workload number)) text) (one_output text refused output).1 output

  module _ (before after : Ends) where
    -- the text that the sink has is the output
    pub summarized : (now : List ℕ) (refused : Bool) → WasAnswered number now before.judged after.judged (Ok refused)
        → ((text : List ℕ) → Some text ≡ Some now → WritesWhole {T = Unit {0}} before.written after.written (Ok tt) (summary_text number text))
        → after.write_faults ≡ before.write_faults → IsSummarized before after number
    summarized now refused answered writes no_fault = record {
      text = answered.text;
      output = own_output answered.text answered.refused answered.output;
      written = writes answered.text (ap Some (sym answered.written));
      no_fault = no_fault;
      judges = record { sum = answered.sum; stale = answered.stale; few = answered.few };
    }

    front : (error : WriteAll) (text : List ℕ) → WritesWhole {T = Unit {0}} before.written after.written (Err error) text → AppendsFront before.written after.written text
    front errors.WriteFault text written = written
    front errors.NoMemory text written = written

    pub summary_cut : (now : List ℕ) (refused : Bool) (error : WriteAll) → WasAnswered number now before.judged after.judged (Ok refused)
        → ((text : List ℕ) → Some text ≡ Some now → WritesWhole {T = Unit {0}} before.written after.written (Err error) (summary_text number text))
        → IsSummaryCutOff before after number
    summary_cut now refused error answered writes = record {
      text = answered.text;
      output = own_output answered.text answered.refused answered.output;
      written = front error (summary_text number answered.text) (writes answered.text (ap Some (sym answered.written)));
      judges = record { sum = answered.sum; stale = answered.stale; few = answered.few };
    }

    -- nothing was written, and memory lacked
    pub summary_of_none : (now : List ℕ) (result : Result Bool WriteAll) → WasAnswered number now before.judged after.judged result
        → after.written ≡ before.written → after.write_faults ≡ before.write_faults → LacksMemoryToSummarize before after number
    summary_of_none now result answered same no_fault = record {
      cut = record {
        text = answered.text;
        output = own_output answered.text answered.refused answered.output;
        written = subst (λ w. AppendsFront before.written w (summary_text number answered.text)) (sym same) (WritesWhole-none Bool before.written (summary_text number answered.text));
        judges = record { sum = answered.sum; stale = answered.stale; few = answered.few };
      };
      no_fault = no_fault;
    }

-- memory lacked before the job was there
pub answered_none : (number steps : ℕ) → DevicesDiffer → WasAnswered number [] steps steps (Err errors.NoMemory)
answered_none number steps differ = answered_nothing (workload number).devices (requests_of (workload number)) (Some []) steps differ

pub workload_is_summarized : AWorkloadIsSummarized
workload_is_summarized before after number statuses.Clean o no_fault = inl (refl, o)
workload_is_summarized before after number statuses.Refusals o no_fault = absurd o
workload_is_summarized before after number (statuses.BadJob line) o no_fault = absurd o
workload_is_summarized before after number statuses.ReadFault o no_fault = absurd o
workload_is_summarized before after number statuses.WriteFault o no_fault = let rose = o.fault in absurd (omega arith)
workload_is_summarized before after number statuses.NoMemory o no_fault = inr (refl, o.cut)
workload_is_summarized before after number statuses.BadWords o no_fault = absurd o
workload_is_summarized before after number statuses.TooLong o no_fault = absurd o

-- the count of faults did not rise, and the status is none that a workload has not
module _ (before after : Ends) (status : Status) where
  told_none : after.write_faults ≡ before.write_faults → (status ≡ statuses.WriteFault → ⊥)
      → ((before.write_faults < after.write_faults) ↔ (status ≡ statuses.WriteFault))
  told_none same not_write = (λ rose. absurd (omega arith), λ e. absurd (not_write e))

pub workload_fault_is_told : AFaultOfAWorkloadIsTold
workload_fault_is_told before after number statuses.Clean o =
    (told_none before after _ o.no_fault (λ e. cc), λ line e. cc, λ e. cc, λ e. cc)
workload_fault_is_told before after number statuses.Refusals o = absurd o
workload_fault_is_told before after number (statuses.BadJob line) o = absurd o
workload_fault_is_told before after number statuses.ReadFault o = absurd o
workload_fault_is_told before after number statuses.WriteFault o =
    ((λ rose. refl, λ e. o.fault), λ line e. cc, λ e. cc, λ e. cc)
workload_fault_is_told before after number statuses.NoMemory o =
    (told_none before after _ o.no_fault (λ e. cc), λ line e. cc, λ e. cc, λ e. cc)
workload_fault_is_told before after number statuses.BadWords o = absurd o
workload_fault_is_told before after number statuses.TooLong o = absurd o
