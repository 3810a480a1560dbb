use Rattle.std.proofs.Common.{ap, ◌∙◌, subst}
use Rattle.std.proofs.lemmas.Result.{IfOk-weaker}
use Rattle.cc_device.specs.Declarations.{declared_devices}
use Rattle.cc_io.specs.Wholes.{WritesWhole}
use Rattle.cc_io.proofs.PassedPieces.{front_none}
use Rattle.cc_runs.specs.Interleavings.{state_of}
use Rattle.cc_runs.specs.Runs.{run}
use Rattle.cc_replies.specs.ReplyTexts.{run_text, is_unfinished}
use Rattle.cc_answers.proofs.running.tell_run.Goals as goal

pub run_program-requires : goal.run_program-requires
run_program-requires g c = c.requires.program.devices ∙ c.requires.devices

pub returns-in-Ok-clause-written : goal.returns-in-Ok-clause-written
returns-in-Ok-clause-written g c =
    let report = c.in-Ok.ensures in
    let devices = declared_devices c.args.declared.now in
    let events = report.events ∙ ap (λ start. (run c.args.fuel (state_of devices start)).events) c.requires.program.start in
    let ending = report.ending ∙ ap (λ start. (run c.args.fuel (state_of devices start)).ending) c.requires.program.start in
    let steps = report.steps ∙ ap (λ start. (run c.args.fuel (state_of devices start)).steps) c.requires.program.start in
    c.told.ensures.written (g.K.Sink.written c.args.sink.now) (g.K.Sink.written c.write_run.new.sink) _
    (subst (WritesWhole (g.K.Sink.written c.args.sink.now) (g.K.Sink.written c.write_run.new.sink) c.write_run.result)
    (λ i. run_text c.args.word.now c.args.names.now.names.items c.args.module.now c.args.def.now (c.deref.ensures.value i) (events i) (ending i) (steps i))
    c.write_run.ensures.written)

pub returns-in-Ok-clause-refused : goal.returns-in-Ok-clause-refused
returns-in-Ok-clause-refused g c =
    let ending = c.in-Ok.ensures.ending
    ∙ ap (λ start. (run c.args.fuel (state_of (declared_devices c.args.declared.now) start)).ending) c.requires.program.start in
    IfOk-weaker c.told.result _ _ (λ answer e. e ∙ c.is_cut_short-refused.ensures ∙ ap is_unfinished ending) c.told.ensures.refused

pub returns-in-Ok-clause-cause : goal.returns-in-Ok-clause-cause
returns-in-Ok-clause-cause g c =
    c.told.ensures.cause (g.K.Sink.faults c.args.sink.now) (g.K.Sink.faults c.write_run.new.sink) c.write_run.ensures.cause
