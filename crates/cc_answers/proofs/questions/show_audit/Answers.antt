use Rattle.std.proofs.Common.{false, [], Ok, Err, refl, sym, ap, ◌∙◌, subst}
use Rattle.cc_verdicts.proofs.PresentLaws.{present_verdicts_exist}
use Rattle.cc_replies.specs.PolicyReplies.{decisions}
use Rattle.cc_replies.specs.Requests.{AuditDefinition, Ask, holding_under}
use Rattle.cc_replies.specs.ReplyTexts.{Audited, AuditRefused, reply_text}
use Rattle.cc_session.specs.EntryAnswers.{IsAnswered}
use Rattle.cc_answers.specs.declared.linked.LinkedEntry.{LinkedEntry}
use Rattle.cc_answers.proofs.CommandFacts.{replied, replied_nothing}
use Rattle.cc_answers.proofs.QuestionReplies.{audit_shown, audit_not_shown}
use Rattle.cc_answers.proofs.questions.show_audit.Goals as goal

pub returns-in-Ok-clause-replied : goal.returns-in-Ok-clause-replied
returns-in-Ok-clause-replied g c =
    let session = c.args.session.now in
    let some = present_verdicts_exist session.devices session.present c.requires.differ c.requires.present in
    let linked = c.deref.result.now in
    let answered = subst (λ (l : LinkedEntry). IsAnswered session.devices session.present some.0 c.args.module.now c.args.def.now (Ok l.entry)) (sym c.deref.ensures)
    (c.in-Ok.ensures.answer.answers some.0 some.1) in
    let names = c.args.names.now.names.items in
    audit_shown session.devices c.args.policy.now session.present some.0 some.1 (g.K.Sink.written c.args.sink.now) (g.K.Sink.written c.write_reply.new.sink)
    c.write_reply.result c.args.module.now c.args.def.now names linked.entry linked.entry.authority.items c.requires.names.0 refl answered
    (c.write_reply.ensures.written
    (reply_text names (Audited c.args.module.now c.args.def.now (decisions names c.args.policy.now linked.entry.module linked.entry.authority.items))) c.audited_reply.ensures)
    c.write_reply.ensures.refused

pub returns-in-Err-Refused-clause-replied : goal.returns-in-Err-Refused-clause-replied
returns-in-Err-Refused-clause-replied g c =
    let session = c.args.session.now in
    let some = present_verdicts_exist session.devices session.present c.requires.differ c.requires.present in
    audit_not_shown session.devices c.args.policy.now session.present some.0 some.1 (g.K.Sink.written c.args.sink.now) (g.K.Sink.written c.write_reply-in-Err-Refused.new.sink)
    c.write_reply-in-Err-Refused.result c.write_reply-in-Err-Refused.ensures.refused c.args.module.now c.args.def.now
    c.in-Err-Refused.refused.code
    (subst (λ e. IsAnswered session.devices session.present some.0 c.args.module.now c.args.def.now (Err e)) c.in-Err-Refused.field-0-is
    (c.in-Err-Refused.ensures.answer some.0 some.1))
    (c.write_reply-in-Err-Refused.ensures.written (reply_text [] (AuditRefused c.args.module.now c.args.def.now c.in-Err-Refused.refused.code)) c.audit_refusal.ensures)

pub returns-in-Err-NoMemory-clause-replied : goal.returns-in-Err-NoMemory-clause-replied
returns-in-Err-NoMemory-clause-replied g c =
    replied_nothing c.args.session.now.devices (holding_under c.args.policy.now c.args.session.now.present) (Ask (AuditDefinition c.args.module.now c.args.def.now))
    c.requires.differ c.requires.present (g.K.Sink.written c.args.sink.now)
