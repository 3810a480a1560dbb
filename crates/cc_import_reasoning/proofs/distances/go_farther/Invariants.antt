use Rattle.std.proofs.Common.{◌≡◌, ℕ, ◌<◌, true, false, List, length}
use Rattle.cc_import_reasoning.specs.Distances.{Links, AreLinks, AreKnownTo, unknown_count}
use Rattle.cc_import_reasoning.proofs.FartherDistances.{AreKnownPartly}
use Rattle.cc_import_reasoning.proofs.distances.go_farther.Given as goal

abbrev pub invariant-loop-place : goal.invariant-loop-place
invariant-loop-place l =
    record {
      count : length l.distances.items ≡ length l.fn.distances.items;
      known : (entry : Links) (named : ℕ → List ℕ) (end : ℕ) (are : AreLinks entry named l.rows) (within : end < length l.rows)
          → AreKnownTo entry named (named end) l.links l.fn.distances.items
          → AreKnownPartly entry named l.rows end l.links are within l.place l.distances.items;
      fewer : l.changed ≡ true → unknown_count l.distances.items < unknown_count l.fn.distances.items;
      same : l.changed ≡ false → l.distances.items ≡ l.fn.distances.items;
    }
