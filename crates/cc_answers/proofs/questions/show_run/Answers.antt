use Rattle.std.proofs.Common.{[], Ok, Err, codes, refl, sym, ap, ◌∙◌, subst}
use Rattle.cc_io.specs.Wholes.{WritesWhole}
use Rattle.cc_device.specs.Declarations.{declared_bases}
use Rattle.cc_verdicts.proofs.PresentLaws.{present_verdicts_exist}
use Rattle.cc_replies.specs.Requests.{RunDefinition, Ask, holding_under}
use Rattle.cc_replies.specs.ReplyTexts.{RunRefused, reply_text, is_unfinished}
use Rattle.cc_replies.specs.RunReplies.{declared_run}
use Rattle.cc_session.specs.Entries.{entry_of}
use Rattle.cc_session.specs.EntryAnswers.{IsAnswered}
use Rattle.cc_answers.specs.Running.{entry_text}
use Rattle.cc_answers.specs.LinkedPrograms.{IsProgramOf}
use Rattle.cc_answers.specs.declared.linked.LinkedEntry.{LinkedEntry}
use Rattle.cc_answers.proofs.CommandFacts.{replied_nothing}
use Rattle.cc_answers.proofs.QuestionReplies.{run_shown, run_not_shown}
use Rattle.cc_answers.proofs.questions.show_run.Goals as goal

pub tell_run-requires-clause-devices : goal.tell_run-requires-clause-devices
tell_run-requires-clause-devices g c =
    let session = c.args.session.now in
    let some = present_verdicts_exist session.devices session.present c.requires.differ c.requires.present in
    let linked = c.deref.result.now in
    let answered = subst (λ (l : LinkedEntry). IsAnswered session.devices session.present some.0 c.args.module.now c.args.def.now (Ok l.entry)) (sym c.deref.ensures)
    (c.in-Ok.ensures.answer.answers some.0 some.1) in
    answered.2.shapes ∙ ap declared_bases (sym c.devices.ensures)

pub tell_run-requires-clause-program : goal.tell_run-requires-clause-program
tell_run-requires-clause-program g c =
    subst (λ (l : LinkedEntry). IsProgramOf l.program l.entry) (sym c.deref.ensures) c.in-Ok.ensures.answer.program

pub returns-in-Ok-clause-replied : goal.returns-in-Ok-clause-replied
returns-in-Ok-clause-replied g c = λ rules.
    let session = c.args.session.now in
    let some = present_verdicts_exist session.devices session.present c.requires.differ c.requires.present in
    let linked = c.deref.result.now in
    let answered = subst (λ (l : LinkedEntry). IsAnswered session.devices session.present some.0 c.args.module.now c.args.def.now (Ok l.entry)) (sym c.deref.ensures)
    (c.in-Ok.ensures.answer.answers some.0 some.1) in
    let names = c.args.names.now.names.items in
    let entry = entry_of linked.entry in
    run_shown session.devices rules session.present some.0 some.1 (g.K.Sink.written c.args.sink.now) (g.K.Sink.written c.tell_run.new.sink) c.tell_run.result
    (entry_text (codes "run") names c.args.module.now c.args.def.now c.devices.result.now c.args.fuel entry)
    (is_unfinished (declared_run c.devices.result.now c.args.fuel entry).ending)
    (λ text is. subst (WritesWhole (g.K.Sink.written c.args.sink.now) (g.K.Sink.written c.tell_run.new.sink) c.tell_run.result) is c.tell_run.ensures.written)
    c.tell_run.ensures.refused c.args.module.now c.args.def.now c.args.fuel names c.devices.result.now linked.entry c.devices.ensures c.requires.names.0
    answered refl refl

pub returns-in-Err-Refused-clause-replied : goal.returns-in-Err-Refused-clause-replied
returns-in-Err-Refused-clause-replied g c = λ rules.
    let session = c.args.session.now in
    let some = present_verdicts_exist session.devices session.present c.requires.differ c.requires.present in
    run_not_shown session.devices rules session.present some.0 some.1 (g.K.Sink.written c.args.sink.now) (g.K.Sink.written c.write_reply.new.sink)
    c.write_reply.result c.write_reply.ensures.refused c.args.module.now c.args.def.now c.args.fuel
    c.in-Err-Refused.refused.code
    (subst (λ e. IsAnswered session.devices session.present some.0 c.args.module.now c.args.def.now (Err e)) c.in-Err-Refused.field-0-is
    (c.in-Err-Refused.ensures.answer some.0 some.1))
    (c.write_reply.ensures.written (reply_text [] (RunRefused c.args.module.now c.args.def.now c.in-Err-Refused.refused.code)) c.run_refusal.ensures)

pub returns-in-Err-NoMemory-clause-replied : goal.returns-in-Err-NoMemory-clause-replied
returns-in-Err-NoMemory-clause-replied g c = λ rules.
    replied_nothing c.args.session.now.devices (holding_under rules c.args.session.now.present) (Ask (RunDefinition c.args.module.now c.args.def.now c.args.fuel))
    c.requires.differ c.requires.present (g.K.Sink.written c.args.sink.now)
