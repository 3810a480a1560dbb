use Rattle.std.proofs.Common.{[], length}
use Rattle.cc_replies.specs.ReplyTexts.{PolicySet, reply_text}
use Rattle.cc_answers.proofs.CommandFacts.{policy_replied}
use Rattle.cc_answers.proofs.commands.tell_policy.Goals as goal

pub returns-clause-replied : goal.returns-clause-replied
returns-clause-replied g c = λ devices state.
    policy_replied devices state c.args.policy.now (g.K.Sink.written c.args.sink.now) (g.K.Sink.written c.write_reply.new.sink) c.write_reply.result
    (c.write_reply.ensures.written (reply_text [] (PolicySet (length c.args.policy.now))) c.policy_reply.ensures) c.write_reply.ensures.refused
