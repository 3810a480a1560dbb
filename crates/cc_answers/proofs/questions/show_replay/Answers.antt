use Rattle.std.proofs.Common.{[], Ok, Err, sym, subst}
use Rattle.std.specs.String.{string_bytes}
use Rattle.cc_verdicts.proofs.PresentLaws.{present_verdicts_exist}
use Rattle.cc_replies.specs.Requests.{ReplayDefinition, Ask, holding_under}
use Rattle.cc_replies.specs.ReplyTexts.{ReplayRefused, reply_text}
use Rattle.cc_session.specs.EntryAnswers.{IsAnswered}
use Rattle.cc_answers.specs.Carried.{IsReplied}
use Rattle.cc_answers.specs.LinkedPrograms.{IsProgramOf}
use Rattle.cc_answers.specs.declared.linked.LinkedEntry.{LinkedEntry}
use Rattle.cc_answers.proofs.CommandFacts.{replied_nothing}
use Rattle.cc_answers.proofs.QuestionReplies.{replay_shown, replay_not_shown}
use Rattle.cc_answers.proofs.questions.show_replay.Goals as goal

pub replayed_reply-requires : goal.replayed_reply-requires
replayed_reply-requires g c = subst (λ (l : LinkedEntry). IsProgramOf l.program l.entry) (sym c.deref.ensures) c.in-Ok.ensures.answer.program

pub returns-in-Ok-replayed_reply-clause-replied : goal.returns-in-Ok-replayed_reply-clause-replied
returns-in-Ok-replayed_reply-clause-replied g c = λ rules.
    let session = c.args.session.now in
    let some = present_verdicts_exist session.devices session.present c.requires.differ c.requires.present in
    let linked = c.deref.result.now in
    let answered = subst (λ (l : LinkedEntry). IsAnswered session.devices session.present some.0 c.args.module.now c.args.def.now (Ok l.entry)) (sym c.deref.ensures)
    (c.in-Ok.ensures.answer.answers some.0 some.1) in
    subst (λ lines. IsReplied session.devices (holding_under rules session.present) (Ask (ReplayDefinition c.args.module.now c.args.def.now c.args.fuel lines))
    (g.K.Sink.written c.args.sink.now) (g.K.Sink.written c.write_reply.new.sink) c.write_reply.result) c.as_bytes.ensures
    (replay_shown session.devices rules session.present some.0 some.1 (g.K.Sink.written c.args.sink.now) (g.K.Sink.written c.write_reply.new.sink) c.write_reply.result
    (string_bytes c.in-Ok-replayed_reply.reply) c.in-Ok-replayed_reply.refused c.write_reply.ensures.written c.write_reply.ensures.refused
    c.args.module.now c.args.def.now c.args.fuel c.as_bytes.result.now c.args.names.now.names.items linked.entry c.requires.names.0
    answered c.in-Ok-replayed_reply.ensures.text c.in-Ok-replayed_reply.ensures.refused)

pub returns-in-Ok-clause-replied : goal.returns-in-Ok-clause-replied
returns-in-Ok-clause-replied g c = λ rules.
    replied_nothing c.args.session.now.devices (holding_under rules c.args.session.now.present) (Ask (ReplayDefinition c.args.module.now c.args.def.now c.args.fuel c.args.text.now))
    c.requires.differ c.requires.present (g.K.Sink.written c.args.sink.now)

pub returns-in-Err-Refused-clause-replied : goal.returns-in-Err-Refused-clause-replied
returns-in-Err-Refused-clause-replied g c = λ rules.
    let session = c.args.session.now in
    let some = present_verdicts_exist session.devices session.present c.requires.differ c.requires.present in
    replay_not_shown session.devices rules session.present some.0 some.1 (g.K.Sink.written c.args.sink.now) (g.K.Sink.written c.write_reply-in-Err-Refused.new.sink)
    c.write_reply-in-Err-Refused.result c.write_reply-in-Err-Refused.ensures.refused c.args.module.now c.args.def.now c.args.fuel c.args.text.now
    c.in-Err-Refused.refused.code
    (subst (λ e. IsAnswered session.devices session.present some.0 c.args.module.now c.args.def.now (Err e)) c.in-Err-Refused.field-0-is
    (c.in-Err-Refused.ensures.answer some.0 some.1))
    (c.write_reply-in-Err-Refused.ensures.written (reply_text [] (ReplayRefused c.args.module.now c.args.def.now c.in-Err-Refused.refused.code)) c.replay_refusal.ensures)

pub returns-clause-replied : goal.returns-clause-replied
returns-clause-replied g c = λ rules.
    replied_nothing c.args.session.now.devices (holding_under rules c.args.session.now.present) (Ask (ReplayDefinition c.args.module.now c.args.def.now c.args.fuel c.args.text.now))
    c.requires.differ c.requires.present (g.K.Sink.written c.args.sink.now)
