use Rattle.std.proofs.Common.{◌≡◌, ◌+◌, ◌-◌, ◌≤◌, length, drop}
use Rattle.cc_capture.specs.Words.{is_within}
use Rattle.cc_capture.proofs.words.is_within.Given as goal

abbrev pub invariant-loop-at : goal.invariant-loop-at
invariant-loop-at l =
    (l.at ≤ length l.left) × (is_within (drop l.at l.left) (drop l.other_at l.right) ≡ is_within l.left l.right)

abbrev pub decreases-loop-at : goal.decreases-loop-at
decreases-loop-at l = (length l.left - l.at) + (length l.right - l.other_at)
