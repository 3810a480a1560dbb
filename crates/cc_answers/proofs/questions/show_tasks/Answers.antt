use Rattle.std.proofs.Common.{◌≡◌, Global, Bool, true, false, List, [], length, map, Some, refl, ap, ◌∙◌, sym, subst, arith}
use Rattle.std.specs.Prelude.{nat_lt}
use Rattle.std.proofs.lemmas.Bool.Decides.{nat_tests}
use Rattle.std.proofs.lemmas.Option.{get_or_from_slice_get, slice_get_within}
use Rattle.std.specs.List.{AllByRecursion}
use Rattle.cc_device.specs.Declarations.{declared_bases}
use Rattle.std.specs.declared.rc.Rc.{Rc}
use Rattle.cc_session.specs.Entries.{entry_of}
use Rattle.cc_io.specs.Wholes.{WritesWhole}
use Rattle.cc_replies.specs.ReplyTexts.{TasksRefused, reply_text, is_refusal}
use Rattle.cc_replies.specs.RunReplies.{first_unstarted, tasks_told, HaveEntries}
use Rattle.cc_verdicts.proofs.PresentLaws.{present_verdicts_exist}
use Rattle.cc_replies.specs.Requests.{RunTasks, Ask, holding_under}
use Rattle.cc_answers.specs.LinkedPrograms.{IsProgramOf}
use Rattle.cc_answers.specs.Running.{AreStarted, HavePrograms}
use Rattle.cc_answers.specs.declared.linked.LinkedEntry.{LinkedEntry}
use Rattle.cc_answers.proofs.CommandFacts.{replied_nothing}
use Rattle.cc_answers.proofs.QuestionReplies.{tasks_shown, tasks_not_shown}
use Rattle.cc_answers.proofs.StartedTasks.{shapes_of_started}
use Rattle.cc_answers.proofs.questions.show_tasks.Goals as goal

pub tell_tasks-requires-clause-devices : goal.tell_tasks-requires-clause-devices
tell_tasks-requires-clause-devices g c =
    let session = c.args.session.now in
    let some = present_verdicts_exist session.devices session.present c.requires.differ c.requires.present in
    let started = subst (AreStarted session.devices session.present some.0 c.args.tasks.now) c.in-Ok-All.field-0-is (c.in-Ok-All.ensures.started some.0 some.1) in
    subst (AllByRecursion (λ (it : Rc LinkedEntry Global). it.value.entry.devices.items ≡ declared_bases c.devices.result.now)) (sym c.deref.ensures.value)
    (shapes_of_started session.devices session.present some.0 (declared_bases c.devices.result.now) c.args.tasks.now c.in-Ok-All.entries.items
    (λ it. it.value.entry) (sym (ap declared_bases c.devices.ensures)) started.1)

pub tell_tasks-requires-clause-programs : goal.tell_tasks-requires-clause-programs
tell_tasks-requires-clause-programs g c =
    subst (AllByRecursion (λ (it : Rc LinkedEntry Global). IsProgramOf it.value.program it.value.entry)) (sym c.deref.ensures.value)
    (subst HavePrograms c.in-Ok-All.field-0-is c.in-Ok-All.ensures.programs)

pub returns-in-Ok-All-clause-replied : goal.returns-in-Ok-All-clause-replied
returns-in-Ok-All-clause-replied g c = λ rules.
    let session = c.args.session.now in
    let some = present_verdicts_exist session.devices session.present c.requires.differ c.requires.present in
    let started = subst (AreStarted session.devices session.present some.0 c.args.tasks.now) c.in-Ok-All.field-0-is (c.in-Ok-All.ensures.started some.0 some.1) in
    let same = sym c.deref.ensures.value in
    let names = c.args.names.now.names.items in
    let told = tasks_told c.devices.result.now c.args.fuel c.args.schedule.now (map (λ (it : Rc LinkedEntry Global). entry_of it.value.entry) c.deref.result.now) in
    tasks_shown session.devices rules session.present some.0 some.1 (g.K.Sink.written c.args.sink.now) (g.K.Sink.written c.tell_tasks.new.sink) c.tell_tasks.result
    (reply_text names told) (is_refusal told)
    (λ text is. subst (WritesWhole (g.K.Sink.written c.args.sink.now) (g.K.Sink.written c.tell_tasks.new.sink) c.tell_tasks.result) is c.tell_tasks.ensures.written)
    c.tell_tasks.ensures.refused c.args.fuel c.args.schedule.now c.args.tasks.now names c.devices.result.now (map (λ (it : Rc LinkedEntry Global). entry_of it.value.entry) c.deref.result.now) c.devices.ensures
    c.requires.names.0 started.0 (subst (λ es. HaveEntries session.devices session.present some.0 c.args.tasks.now (map (λ (it : Rc LinkedEntry Global). entry_of it.value.entry) es)) same started.1) refl refl

pub returns-in-Err-clause-replied : goal.returns-in-Err-clause-replied
returns-in-Err-clause-replied g c = λ rules.
    replied_nothing c.args.session.now.devices (holding_under rules c.args.session.now.present) (Ask (RunTasks c.args.fuel c.args.schedule.now c.args.tasks.now))
    c.requires.differ c.requires.present (g.K.Sink.written c.args.sink.now)

pub returns-in-Some-clause-replied : goal.returns-in-Some-clause-replied
returns-in-Some-clause-replied g c = λ rules.
    let session = c.args.session.now in
    let some = present_verdicts_exist session.devices session.present c.requires.differ c.requires.present in
    let (names, there, first) = subst (AreStarted session.devices session.present some.0 c.args.tasks.now) c.in-Ok-Refused.field-0-is (c.in-Ok-Refused.ensures.started some.0 some.1) in
    let code = c.in-Ok-Refused.code in
    let named : names ≡ c.in-Some.one.now =
    sym (get_or_from_slice_get c.args.tasks.now c.in-Ok-Refused.task names c.in-Some.one.now there) ∙ sym (c.in-Some.ensures.lookup.1) in
    tasks_not_shown session.devices rules session.present some.0 some.1 (g.K.Sink.written c.args.sink.now) (g.K.Sink.written c.write_reply.new.sink)
    c.write_reply.result c.write_reply.ensures.refused c.args.fuel c.args.schedule.now c.args.tasks.now code c.in-Some.one.now
    (subst (λ n. first_unstarted session.present some.0 c.args.tasks.now ≡ Some (record { module_name = n.0; name = n.1; code = code })) named first)
    (c.write_reply.ensures.written (reply_text [] (TasksRefused code c.in-Some.one.now.0 c.in-Some.one.now.1)) c.tasks_refusal.ensures)

clash : (b : Bool) → false ≡ b → b ≡ true → ⊥
clash b e f = cc

pub unreachable-requires : goal.unreachable-requires
unreachable-requires g c =
    let session = c.args.session.now in
    let some = present_verdicts_exist session.devices session.present c.requires.differ c.requires.present in
    let (names, there, first) = subst (AreStarted session.devices session.present some.0 c.args.tasks.now) c.in-Ok-Refused.field-0-is (c.in-Ok-Refused.ensures.started some.0 some.1) in
    let within = slice_get_within c.args.tasks.now c.in-Ok-Refused.task names there in
    clash (nat_lt c.in-Ok-Refused.task (length c.args.tasks.now)) c.in-None.ensures.lookup.0 (grind (arith, nat_tests, within))
