use Rattle.std.proofs.Common.{◌≡◌, ℕ, ◌<◌, ◌≤◌, false, not, ◌&&◌, length}
use Rattle.cc_graph.specs.Places.{has_bit, has_at, width_for}
use Rattle.cc_graph.proofs.closure.held_by.Given as goal

abbrev pub invariant-loop-place : goal.invariant-loop-place
invariant-loop-place l =
    record {
      width : length l.held ≡ width_for (length l.closed);
      done : (place : ℕ) → place < l.place → has_bit l.held place ≡ (has_bit l.row place && not
          (has_at l.closed place l.at));
      left : (place : ℕ) → l.place ≤ place → has_bit l.held place ≡ false;
    }
