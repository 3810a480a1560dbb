use Rattle.std.proofs.Common.{false, [], Err, refl, sym, ap, ◌∙◌, subst}
use Rattle.cc_base.specs.declared.code.Code.TheVariants.{E36}
use Rattle.cc_io.specs.Wholes.{WritesWhole}
use Rattle.cc_verdicts.proofs.PresentLaws.{present_verdicts_exist}
use Rattle.cc_verdicts.specs.StandingDefinitions.{standing_in}
use Rattle.cc_replies.specs.ReplyTexts.{DerivationRefused, reply_text}
use Rattle.cc_session.specs.StandingAnswers.{AnswersStanding}
use Rattle.cc_replies.specs.Requests.{ShowDerivation, Ask, holding_under}
use Rattle.cc_answers.proofs.CommandFacts.{replied_nothing}
use Rattle.cc_answers.proofs.QuestionReplies.{derivation_shown, derivation_too_large, derivation_not_shown}
use Rattle.cc_answers.proofs.questions.show_derivation.Goals as goal

pub returns-in-Err-clause-replied : goal.returns-in-Err-clause-replied
returns-in-Err-clause-replied g c = λ rules.
    replied_nothing c.args.session.now.devices (holding_under rules c.args.session.now.present) (Ask (ShowDerivation c.args.module.now c.args.def.now))
    c.requires.differ c.requires.present (g.K.Sink.written c.args.sink.now)

pub returns-then-many-clause-replied : goal.returns-then-many-clause-replied
returns-then-many-clause-replied g c = λ rules.
    let session = c.args.session.now in
    let some = present_verdicts_exist session.devices session.present c.requires.differ c.requires.present in
    let stands = c.in-Ok.ensures.answer some.0 some.1 in
    derivation_too_large session.devices rules session.present some.0 some.1 (g.K.Sink.written c.args.sink.now) (g.K.Sink.written c.write_reply.new.sink)
    c.write_reply.result c.write_reply.ensures.refused c.args.module.now c.args.def.now stands.0 stands.1 _ _
    stands.2.context (ap (λ d. d.accepted) stands.2.definition) (sym c.in-Ok-has_too_many_nodes.ensures ∙ c.if-many.true)
    (c.write_reply.ensures.written (reply_text [] (DerivationRefused c.args.module.now c.args.def.now E36)) c.derive_refusal.ensures)

pub returns-else-many-clause-replied : goal.returns-else-many-clause-replied
returns-else-many-clause-replied g c = λ rules.
    let session = c.args.session.now in
    let some = present_verdicts_exist session.devices session.present c.requires.differ c.requires.present in
    let stands = c.in-Ok.ensures.answer some.0 some.1 in
    derivation_shown session.devices rules session.present some.0 some.1 (g.K.Sink.written c.args.sink.now) (g.K.Sink.written c.write_derivation.new.sink)
    c.told.result _ false
    (λ text is. c.told.ensures.written (g.K.Sink.written c.args.sink.now) (g.K.Sink.written c.write_derivation.new.sink) text
    (subst (WritesWhole (g.K.Sink.written c.args.sink.now) (g.K.Sink.written c.write_derivation.new.sink) c.write_derivation.result) is
    c.write_derivation.ensures.written))
    c.told.ensures.refused c.args.module.now c.args.def.now stands.0 stands.1 _ _ _ stands.2.names stands.2.context
    (ap (λ d. d.accepted) stands.2.definition) (sym c.in-Ok-has_too_many_nodes.ensures ∙ c.if-many.false) refl refl

pub returns-else-many-clause-cause : goal.returns-else-many-clause-cause
returns-else-many-clause-cause g c =
    c.told.ensures.cause (g.K.Sink.faults c.args.sink.now) (g.K.Sink.faults c.write_derivation.new.sink) c.write_derivation.ensures.cause

pub returns-in-Err-Refused-clause-replied : goal.returns-in-Err-Refused-clause-replied
returns-in-Err-Refused-clause-replied g c = λ rules.
    let session = c.args.session.now in
    let some = present_verdicts_exist session.devices session.present c.requires.differ c.requires.present in
    derivation_not_shown session.devices rules session.present some.0 some.1 (g.K.Sink.written c.args.sink.now) (g.K.Sink.written c.write_reply-in-Err-Refused.new.sink)
    c.write_reply-in-Err-Refused.result c.write_reply-in-Err-Refused.ensures.refused c.args.module.now c.args.def.now c.in-Err-Refused.refused.code
    (subst (λ e. AnswersStanding session.devices (standing_in session.present some.0 c.args.module.now c.args.def.now) (Err e)) c.in-Err-Refused.field-0-is
    (c.in-Err-Refused.ensures.answer some.0 some.1))
    (c.write_reply-in-Err-Refused.ensures.written (reply_text [] (DerivationRefused c.args.module.now c.args.def.now c.in-Err-Refused.refused.code))
    c.derive_refusal-in-Err-Refused.ensures)

pub returns-in-Err-NoMemory-clause-replied : goal.returns-in-Err-NoMemory-clause-replied
returns-in-Err-NoMemory-clause-replied g c = λ rules.
    replied_nothing c.args.session.now.devices (holding_under rules c.args.session.now.present) (Ask (ShowDerivation c.args.module.now c.args.def.now))
    c.requires.differ c.requires.present (g.K.Sink.written c.args.sink.now)
