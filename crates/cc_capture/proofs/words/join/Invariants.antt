use Rattle.std.proofs.Common.{◌≡◌, ◌+◌, ◌-◌, ◌≤◌, ◌++◌, length, drop}
use Rattle.cc_capture.specs.Words.{joined}
use Rattle.cc_capture.proofs.words.join.Given as goal

abbrev pub invariant-loop-at : goal.invariant-loop-at
invariant-loop-at l =
    record {
      within : l.at ≤ length l.left;
      other_within : l.other_at ≤ length l.right;
      so_far : l.items.items ++ joined (drop l.at l.left) (drop l.other_at l.right) ≡ joined l.left l.right;
    }

abbrev pub decreases-loop-at : goal.decreases-loop-at
decreases-loop-at l = (length l.left - l.at) + (length l.right - l.other_at)
