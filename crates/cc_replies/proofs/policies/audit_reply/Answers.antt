use Rattle.std.proofs.Common.{◌++◌, codes, ap, ◌∙◌}
use Rattle.cc_replies.specs.PolicyReplies.{decision_for}
use Rattle.cc_replies.specs.ReplyTexts.{pair_head, decision_line}
use Rattle.cc_replies.proofs.Mapped.{flat_mapped}
use Rattle.cc_replies.proofs.policies.audit_reply.Goals as goal

pub returns : goal.returns
returns c =
    let names = c.args.names.now.names.items in
    c.loop-device.invariant
    ∙ ap (λ lines. pair_head (codes "audit") c.args.«module».now c.args.def.now ++ lines)
    (flat_mapped (decision_line names) (λ device. (device, decision_for names c.args.policy.now c.args.owner.now device)) c.args.authority.now
    c.loop-device.device-index c.loop-device-test.false)
