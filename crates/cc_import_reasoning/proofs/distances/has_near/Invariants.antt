use Rattle.std.proofs.Common.{◌≡◌, ℕ, ◌<◌, true, Some}
use Rattle.cc_import_reasoning.specs.Distances.{distance_at, is_marked}
use Rattle.cc_import_reasoning.proofs.distances.has_near.Given as goal

abbrev pub invariant-loop-place : goal.invariant-loop-place
invariant-loop-place l = (place : ℕ) → place < l.place → is_marked l.row place ≡ true → distance_at l.distances place ≡ Some l.links → ⊥
