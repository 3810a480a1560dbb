use Rattle.std.proofs.Common.{ap, ◌∙◌}
use Rattle.std.proofs.lemmas.Result.{IfOk-weaker}
use Rattle.cc_judge.specs.Kept.{named_verdicts}
use Rattle.cc_mnf.specs.ElaboratedModules.{device_names}
use Rattle.cc_replies.specs.Requests.{CheckModules, Ask, holding_under}
use Rattle.cc_replies.specs.ReplyTexts.{Verdicts, reply_text}
use Rattle.cc_answers.proofs.CommandFacts.{replied}
use Rattle.cc_answers.proofs.SessionReplies.{check_is}
use Rattle.cc_answers.proofs.questions.show_verdicts.Goals as goal

pub returns-clause-replied : goal.returns-clause-replied
returns-clause-replied g c = λ rules.
    let session = c.args.session.now in
    let current = c.verdicts-verdicts.ensures.current in
    let verdicts = named_verdicts c.verdicts-verdicts.result.now in
    let is = check_is session.present current.0 session.last verdicts c.verdicts-verdicts.ensures.answer current.2 in
    replied session.devices (holding_under rules session.present) (Ask CheckModules) (Verdicts verdicts) (current.0, current.1, is)
    (g.K.Sink.written c.args.sink.now) (g.K.Sink.written c.write_reply.new.sink) c.write_reply.result
    (c.write_reply.ensures.written (reply_text (device_names session.devices) (Verdicts verdicts)) c.check_reply.ensures)
    (IfOk-weaker c.write_reply.result _ _ (λ answer e. e ∙ c.has_refused-refused.ensures) c.write_reply.ensures.refused)
