use Rattle.std.proofs.Common.{ℕ, ◌<◌, [], get_or}
use Rattle.cc_graph.specs.Places.{IsHeld}
use Rattle.cc_graph.proofs.closure.first_free.Given as goal

abbrev pub invariant-loop-place : goal.invariant-loop-place
invariant-loop-place l = (place : ℕ) → place < l.place → IsHeld (get_or l.rows place []) l.listed place
