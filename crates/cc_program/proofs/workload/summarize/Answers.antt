use Rattle.std.proofs.Common.{[], Ok, Err, refl, subst}
use Rattle.cc_io.specs.Wholes.{WriteAllCause}
use Rattle.cc_io.specs.declared.whole.WriteAll.TheVariants as errors
use Rattle.cc_program.specs.Outcome.{ends}
use Rattle.cc_program.proofs.WorkloadOutcomes.{answered_none, answered_as, summarized, summary_cut, summary_of_none}
use Rattle.cc_program.proofs.workload.summarize.Goals as goal

pub returns-in-Err : goal.returns-in-Err
returns-in-Err g c = λ left faults.
    summary_of_none c.workloads_end_clean.ensures.clean c.args.number c.requires.number.0 c.requires.number.1
    (ends left faults (g.K.Sink.written c.args.sink.now) (g.K.Sink.faults c.args.sink.now) c.args.steps.now)
    (ends left faults (g.K.Sink.written c.args.sink.now) (g.K.Sink.faults c.args.sink.now) c.args.steps.now)
    [] (Err errors.NoMemory) (answered_none c.args.number c.args.steps.now c.workload_items.ensures.names)
    refl refl

pub returns-in-Err-carry_out : goal.returns-in-Err-carry_out
returns-in-Err-carry_out g c = λ left faults.
    summary_of_none c.workloads_end_clean.ensures.clean c.args.number c.requires.number.0 c.requires.number.1
    (ends left faults (g.K.Sink.written c.args.sink.now) (g.K.Sink.faults c.args.sink.now) c.args.steps.now)
    (ends left faults (g.K.Sink.written c.args.sink.now) (g.K.Sink.faults c.args.sink.now) c.carry_out.new.steps)
    c.carry_out.new.sink (Err c.in-Err-carry_out.field-0)
    (answered_as c.in-Ok.job c.args.number c.in-Ok.ensures c.new-counting.result c.carry_out.new.sink
    c.new-counting.ensures.written c.args.steps.now c.carry_out.new.steps (Err c.in-Err-carry_out.field-0)
    c.in-Err-carry_out.ensures.answered)
    refl refl

pub returns-in-Ok-write_summary : goal.returns-in-Ok-write_summary
returns-in-Ok-write_summary g c = λ left faults.
    summarized c.workloads_end_clean.ensures.clean c.args.number c.requires.number.0 c.requires.number.1
    (ends left faults (g.K.Sink.written c.args.sink.now) (g.K.Sink.faults c.args.sink.now) c.args.steps.now)
    (ends left faults (g.K.Sink.written c.write_summary.new.sink) (g.K.Sink.faults c.write_summary.new.sink) c.carry_out.new.steps)
    c.carry_out.new.sink c.in-Ok-carry_out.field-0
    (answered_as c.in-Ok.job c.args.number c.in-Ok.ensures c.new-counting.result c.carry_out.new.sink
    c.new-counting.ensures.written c.args.steps.now c.carry_out.new.steps (Ok c.in-Ok-carry_out.field-0)
    c.in-Ok-carry_out.ensures.answered)
    c.in-Ok-write_summary.ensures.written c.in-Ok-write_summary.ensures.cause

pub returns-in-Err-WriteFault : goal.returns-in-Err-WriteFault
returns-in-Err-WriteFault g c = λ left faults. record {
  fault = subst (λ error. WriteAllCause {T = Unit {0}} (g.K.Sink.faults c.args.sink.now) (g.K.Sink.faults c.write_summary.new.sink) (Err error))
      c.in-Err-WriteFault.field-0-is c.in-Err-WriteFault.ensures.cause;
  cut = summary_cut c.workloads_end_clean.ensures.clean c.args.number c.requires.number.0 c.requires.number.1
      (ends left faults (g.K.Sink.written c.args.sink.now) (g.K.Sink.faults c.args.sink.now) c.args.steps.now)
      (ends left faults (g.K.Sink.written c.write_summary.new.sink) (g.K.Sink.faults c.write_summary.new.sink) c.carry_out.new.steps)
      c.carry_out.new.sink c.in-Ok-carry_out.field-0 c.in-Err-WriteFault.field-0
      (answered_as c.in-Ok.job c.args.number c.in-Ok.ensures c.new-counting.result c.carry_out.new.sink
      c.new-counting.ensures.written c.args.steps.now c.carry_out.new.steps (Ok c.in-Ok-carry_out.field-0)
      c.in-Ok-carry_out.ensures.answered)
      c.in-Err-WriteFault.ensures.written;
}

pub returns : goal.returns
returns g c = λ left faults. record {
  no_fault = subst (λ error. WriteAllCause {T = Unit {0}} (g.K.Sink.faults c.args.sink.now) (g.K.Sink.faults c.write_summary.new.sink) (Err error))
      c.in-Err-NoMemory.field-0-is c.in-Err-NoMemory.ensures.cause;
  cut = summary_cut c.workloads_end_clean.ensures.clean c.args.number c.requires.number.0 c.requires.number.1
      (ends left faults (g.K.Sink.written c.args.sink.now) (g.K.Sink.faults c.args.sink.now) c.args.steps.now)
      (ends left faults (g.K.Sink.written c.write_summary.new.sink) (g.K.Sink.faults c.write_summary.new.sink) c.carry_out.new.steps)
      c.carry_out.new.sink c.in-Ok-carry_out.field-0 c.in-Err-NoMemory.field-0
      (answered_as c.in-Ok.job c.args.number c.in-Ok.ensures c.new-counting.result c.carry_out.new.sink
      c.new-counting.ensures.written c.args.steps.now c.carry_out.new.steps (Ok c.in-Ok-carry_out.field-0)
      c.in-Ok-carry_out.ensures.answered)
      c.in-Err-NoMemory.ensures.written;
}
