use Rattle.std.proofs.Common.{◌≡◌, ℕ, ◌<◌, length}
use Rattle.cc_graph.specs.Graph.{does_import}
use Rattle.cc_graph.specs.Places.{name_at}
use Rattle.cc_judge.specs.KnownGraphs.{entries_of}
use Rattle.cc_import_reasoning.specs.Distances.{is_marked_at}
use Rattle.cc_import_reasoning.proofs.places.rows_of.Given as goal

abbrev pub invariant-loop-at : goal.invariant-loop-at
invariant-loop-at l =
    record {
      count : length l.rows.items ≡ l.at;
      marks : (from to : ℕ) → from < l.at → to < length l.modules
          → is_marked_at l.rows.items from to
          ≡ does_import (entries_of l.modules) (name_at (entries_of l.modules) from) (name_at (entries_of l.modules) to);
    }
