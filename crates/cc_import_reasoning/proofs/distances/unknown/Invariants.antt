use Rattle.std.proofs.Common.{◌≡◌, ℕ, length, None}
use Rattle.cc_import_reasoning.specs.Distances.{distance_at}
use Rattle.cc_import_reasoning.proofs.distances.unknown.Given as goal

abbrev pub invariant-loop-place : goal.invariant-loop-place
invariant-loop-place l =
    record {
      count : length l.all.items ≡ l._place;
      none : (place : ℕ) → distance_at l.all.items place ≡ None;
    }
