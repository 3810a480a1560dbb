use Rattle.std.proofs.Common.{◌*◌, ◌≤◌, length}
use Rattle.cc_sets.proofs.MarkedWords.{IsClearFrom}
use Rattle.cc_sets.proofs.marks.last_marked.Given as goal

abbrev pub invariant-loop-at : goal.invariant-loop-at
invariant-loop-at l = (l.at ≤ length l.words) × IsClearFrom (64 * l.at) l.words

abbrev pub decreases-loop-at : goal.decreases-loop-at
decreases-loop-at l = l.at
