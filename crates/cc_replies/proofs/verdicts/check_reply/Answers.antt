use Rattle.std.proofs.Common.{◌++◌, codes, ap, ◌∙◌}
use Rattle.cc_replies.specs.ReplyTexts.{line, verdict_line}
use Rattle.cc_judge.specs.Kept.{named_verdict}
use Rattle.cc_replies.proofs.Mapped.{flat_mapped}
use Rattle.cc_replies.proofs.verdicts.check_reply.Goals as goal

pub returns : goal.returns
returns c =
    c.loop-one.invariant
    ∙ ap (λ lines. line (codes "check") ++ lines)
    (flat_mapped verdict_line named_verdict c.args.verdicts.now c.loop-one.one-index c.loop-one-test.false)
