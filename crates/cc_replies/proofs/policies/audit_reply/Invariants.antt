use Rattle.std.proofs.Common.{◌≡◌, ◌++◌, take, codes, flat_map}
use Rattle.std.specs.String.{string_bytes}
use Rattle.cc_replies.specs.PolicyReplies.{decision_for}
use Rattle.cc_replies.specs.ReplyTexts.{pair_head, decision_line}
use Rattle.cc_replies.proofs.policies.audit_reply.Given as goal

abbrev pub invariant-loop-device : goal.invariant-loop-device
invariant-loop-device l =
    string_bytes l.out
    ≡ pair_head (codes "audit") l.«module» l.def
    ++ flat_map (λ device. decision_line l.names.names.items (device, decision_for l.names.names.items l.policy l.owner device))
    (take l.device-index l.authority)
