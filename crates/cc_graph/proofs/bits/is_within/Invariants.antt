use Rattle.std.proofs.Common.{◌≡◌, ℕ, ◌<◌, get_or, w64}
use Rattle.std.specs.Int.{bit_not}
use Rattle.std.specs.Prelude.{bit_and}
use Rattle.cc_graph.proofs.bits.is_within.Given as goal

abbrev pub invariant-loop-at : goal.invariant-loop-at
invariant-loop-at l = (j : ℕ) → j < l.at → bit_and (get_or l.words j 0) (bit_not w64 (get_or l.others j 0)) ≡ 0
