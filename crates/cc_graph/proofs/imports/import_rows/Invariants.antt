use Rattle.std.proofs.Common.{◌≡◌, ℕ, ◌<◌, ◌≤◌, false, length}
use Rattle.cc_graph.specs.Graph.{does_import}
use Rattle.cc_graph.specs.Places.{has_at, width_for, AreWide, name_at}
use Rattle.cc_graph.proofs.imports.import_rows.Given as goal

abbrev pub invariant-loop-module : goal.invariant-loop-module
invariant-loop-module l =
    record {
      count : length l.rows.items ≡ l.module-index;
      wide : AreWide (width_for (length l.modules)) l.rows.items;
      bits : (from to : ℕ) → from < l.module-index → to < length l.modules
          → has_at l.rows.items from to ≡ does_import l.modules (name_at l.modules from) (name_at l.modules to);
      inside : (from to : ℕ) → length l.modules ≤ to → has_at l.rows.items from to ≡ false;
    }
