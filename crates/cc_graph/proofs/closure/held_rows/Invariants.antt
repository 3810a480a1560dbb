use Rattle.std.proofs.Common.{◌≡◌, ℕ, ◌<◌, ◌≤◌, false, not, ◌&&◌, length}
use Rattle.cc_graph.specs.Places.{has_at, width_for, AreWide}
use Rattle.cc_graph.proofs.closure.held_rows.Given as goal

abbrev pub invariant-loop-at : goal.invariant-loop-at
invariant-loop-at l =
    record {
      count : length l.all.items ≡ l.at;
      wide : AreWide (width_for (length l.rows)) l.all.items;
      bits : (from to : ℕ) → from < l.at → to < length l.rows → has_at l.all.items from to ≡
          (has_at l.rows from to && not (has_at l.closed to from));
      inside : (from to : ℕ) → length l.rows ≤ to → has_at l.all.items from to ≡ false;
    }
