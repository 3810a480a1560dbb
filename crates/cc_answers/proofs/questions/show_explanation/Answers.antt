use Rattle.std.proofs.Common.{[], Err, ap, subst}
use Rattle.cc_verdicts.proofs.PresentLaws.{present_verdicts_exist}
use Rattle.cc_verdicts.specs.ModuleVerdicts.{CheckedDefinition}
use Rattle.cc_verdicts.specs.StandingDefinitions.{standing_in}
use Rattle.cc_replies.specs.ReplyTexts.{ExplainRefused, reply_text}
use Rattle.cc_session.specs.StandingAnswers.{AnswersStanding}
use Rattle.cc_replies.specs.Requests.{ExplainDefinition, Ask, holding_under}
use Rattle.cc_answers.proofs.CommandFacts.{replied_nothing}
use Rattle.cc_answers.proofs.QuestionReplies.{explain_not_shown}
use Rattle.cc_answers.proofs.questions.show_explanation.Goals as goal

pub returns-in-Ok-clause-replied : goal.returns-in-Ok-clause-replied
returns-in-Ok-clause-replied g c = λ rules.
    let session = c.args.session.now in
    let some = present_verdicts_exist session.devices session.present c.requires.differ c.requires.present in
    let stands = c.in-Ok.ensures.answer some.0 some.1 in
    c.tell_explanation.ensures.replied rules some.0 some.1 stands.0 stands.1
    (ap (λ (d : CheckedDefinition). d.accepted.signature.set) stands.2.definition)

pub returns-in-Err-Refused-clause-replied : goal.returns-in-Err-Refused-clause-replied
returns-in-Err-Refused-clause-replied g c = λ rules.
    let session = c.args.session.now in
    let some = present_verdicts_exist session.devices session.present c.requires.differ c.requires.present in
    explain_not_shown session.devices rules session.present some.0 some.1 (g.K.Sink.written c.args.sink.now) (g.K.Sink.written c.write_reply.new.sink)
    c.write_reply.result c.write_reply.ensures.refused c.args.module.now c.args.def.now c.in-Err-Refused.refused.code
    (subst (λ e. AnswersStanding session.devices (standing_in session.present some.0 c.args.module.now c.args.def.now) (Err e)) c.in-Err-Refused.field-0-is
    (c.in-Err-Refused.ensures.answer some.0 some.1))
    (c.write_reply.ensures.written (reply_text [] (ExplainRefused c.args.module.now c.args.def.now c.in-Err-Refused.refused.code))
    c.explain_refusal.ensures)

pub returns-in-Err-NoMemory-clause-replied : goal.returns-in-Err-NoMemory-clause-replied
returns-in-Err-NoMemory-clause-replied g c = λ rules.
    replied_nothing c.args.session.now.devices (holding_under rules c.args.session.now.present) (Ask (ExplainDefinition c.args.module.now c.args.def.now))
    c.requires.differ c.requires.present (g.K.Sink.written c.args.sink.now)
