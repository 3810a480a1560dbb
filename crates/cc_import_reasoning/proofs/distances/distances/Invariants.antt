use Rattle.std.proofs.Common.{◌≡◌, ℕ, ◌+◌, ◌<◌, List, length}
use Rattle.cc_import_reasoning.specs.Distances.{Links, AreLinks, AreKnownTo, unknown_count}
use Rattle.cc_import_reasoning.proofs.distances.distances.Given as goal

abbrev pub invariant-loop-links : goal.invariant-loop-links
invariant-loop-links l =
    record {
      count : length l.distances.items ≡ length l.rows;
      known : (entry : Links) (named : ℕ → List ℕ) → AreLinks entry named l.rows → AreKnownTo entry named (named l.end) l.links l.distances.items;
      fewer : l.links + unknown_count l.distances.items < length l.rows;
    }
