use Rattle.std.proofs.Common.{◌≡◌, Bor, Global, List, map, ap, ◌∙◌, refl, sym, subst}
use Rattle.std.specs.List.{AllByRecursion}
use Rattle.std.proofs.lemmas.Result.{IfOk-weaker}
use Rattle.cc_runs.specs.Interleavings.{interleave, report_of}
use Rattle.cc_runs.specs.SafeRuns.{HaveShapes}
use Rattle.cc_machine.specs.declared.program.Program.{Program}
use Rattle.cc_machine.specs.Programs.{shapes_of}
use Rattle.cc_device.specs.Declarations.{declared_bases, declared_devices}
use Rattle.cc_io.specs.Wholes.{WritesWhole}
use Rattle.cc_session.specs.declared.entry.Entry.{Entry}
use Rattle.cc_replies.specs.ReplyTexts.{reply_text, is_refusal}
use Rattle.cc_tasks.specs.Reports.{told_by, world_in}
use Rattle.std.specs.declared.rc.Rc.{Rc}
use Rattle.cc_answers.specs.declared.linked.LinkedEntry.{LinkedEntry}
use Rattle.cc_answers.proofs.AllOf.{all_mapped, all_unmapped}
use Rattle.cc_answers.proofs.RunFacts.{shapes_of_programs, shapes_of_linked, told_linked}
use Rattle.cc_answers.proofs.running.tell_tasks.Goals as goal

pub run_programs-requires : goal.run_programs-requires
run_programs-requires g c = λ devices have.
    let linked = c.args.linked.now in
    let programs = c.in-Ok.programs.items in
    let P : List (Bor Program) → Type 0 = AllByRecursion (λ (program : Bor Program). HaveShapes devices (shapes_of program.now)) in
    subst P (sym c.deref.ensures.value)
    (all_unmapped (λ (program : Program). HaveShapes devices (shapes_of program)) programs (λ (it : Bor Program). it.now)
    (shapes_of_programs devices (declared_bases c.args.declared.now) (map (λ (it : Bor Program). it.now) programs) (map (λ it. it.value.entry) linked)
    (ap (map shapes_of) c.in-Ok.ensures ∙ shapes_of_linked (λ it. it.value.program) (λ it. it.value.entry) linked c.requires.programs)
    (all_mapped (λ (entry : Entry). entry.devices.items ≡ declared_bases c.args.declared.now) linked (λ it. it.value.entry) c.requires.devices) have))

pub returns-in-Ok-run_programs-clause-written : goal.returns-in-Ok-run_programs-clause-written
returns-in-Ok-run_programs-clause-written g c =
    let told = told_linked (λ (it : Rc LinkedEntry Global). it.value.program) (λ it. it.value.entry) c.args.fuel c.args.schedule.now c.deref.result.now
    c.deref-in-Ok-run_programs.result.now (declared_devices c.args.declared.now) c.args.declared.now (told_by c.in-Ok-run_programs.report) c.args.linked.now
    c.requires.programs refl (ap (map (λ (it : Bor Program). it.now)) c.deref.ensures.value ∙ c.in-Ok.ensures)
    (ap (map (λ (it : Bor Entry). it.now)) c.deref-in-Ok-run_programs.ensures.value ∙ c.in-Ok-entries_of.ensures) c.in-Ok-run_programs.ensures in
    c.told.ensures.written (g.K.Sink.written c.args.sink.now) (g.K.Sink.written c.write_tasks.new.sink) _
    (subst (λ reply. WritesWhole (g.K.Sink.written c.args.sink.now) (g.K.Sink.written c.write_tasks.new.sink) c.write_tasks.result
    (reply_text c.args.names.now.names.items reply)) told c.write_tasks.ensures.written)

pub returns-in-Ok-run_programs-clause-refused : goal.returns-in-Ok-run_programs-clause-refused
returns-in-Ok-run_programs-clause-refused g c =
    let told = told_linked (λ (it : Rc LinkedEntry Global). it.value.program) (λ it. it.value.entry) c.args.fuel c.args.schedule.now c.deref.result.now
    c.deref-in-Ok-run_programs.result.now (declared_devices c.args.declared.now) c.args.declared.now (told_by c.in-Ok-run_programs.report) c.args.linked.now
    c.requires.programs refl (ap (map (λ (it : Bor Program). it.now)) c.deref.ensures.value ∙ c.in-Ok.ensures)
    (ap (map (λ (it : Bor Entry). it.now)) c.deref-in-Ok-run_programs.ensures.value ∙ c.in-Ok-entries_of.ensures) c.in-Ok-run_programs.ensures in
    IfOk-weaker c.told.result _ _
    (λ answer e.
    e ∙ c.tasks_cut_short-refused.ensures (map (λ (entry : Bor Entry). entry.now.authority.items) c.deref-in-Ok-run_programs.result.now)
    ∙ ap is_refusal told)
    c.told.ensures.refused

pub returns-in-Ok-run_programs-clause-cause : goal.returns-in-Ok-run_programs-clause-cause
returns-in-Ok-run_programs-clause-cause g c =
    c.told.ensures.cause (g.K.Sink.faults c.args.sink.now) (g.K.Sink.faults c.write_tasks.new.sink) c.write_tasks.ensures.cause
