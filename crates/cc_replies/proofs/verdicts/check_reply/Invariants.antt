use Rattle.std.proofs.Common.{◌≡◌, ◌++◌, take, codes, flat_map}
use Rattle.std.specs.String.{string_bytes}
use Rattle.cc_replies.specs.ReplyTexts.{line, verdict_line}
use Rattle.cc_judge.specs.Kept.{named_verdict}
use Rattle.cc_replies.proofs.verdicts.check_reply.Given as goal

abbrev pub invariant-loop-one : goal.invariant-loop-one
invariant-loop-one l =
    string_bytes l.out
    ≡ line (codes "check") ++ flat_map (λ one. verdict_line (named_verdict one)) (take l.one-index l.verdicts)
