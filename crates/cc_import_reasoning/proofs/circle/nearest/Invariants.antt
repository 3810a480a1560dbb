use Rattle.std.proofs.Common.{◌≡◌, ℕ, ◌<◌, List, slice_get, Some}
use Rattle.cc_judge.specs.KnownGraphs.{entries_of}
use Rattle.cc_import_reasoning.specs.Circles.{IsAtDistance}
use Rattle.cc_import_reasoning.proofs.circle.nearest.Given as goal

abbrev pub invariant-loop-name : goal.invariant-loop-name
invariant-loop-name l =
    (other : ℕ) (name : List ℕ) → other < l.name-index → slice_get l.names other ≡ Some name
    → IsAtDistance (entries_of l.modules) l.distances l.links name → ⊥
