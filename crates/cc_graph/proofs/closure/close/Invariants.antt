use Rattle.std.proofs.Common.{◌≡◌, ℕ, length}
use Rattle.cc_graph.specs.Graph.{leads_through}
use Rattle.cc_graph.specs.Places.{has_at, width_for, AreWide, places_below}
use Rattle.cc_graph.proofs.closure.close.Given as goal

abbrev pub invariant-loop-at : goal.invariant-loop-at
invariant-loop-at l =
    record {
      wide : AreWide (width_for (length l.rows)) l.rows;
      closed : (from to : ℕ) → has_at l.rows from to ≡ leads_through (has_at l.fn.rows) (places_below l.at) from to;
    }
