use Rattle.std.proofs.Common.{◌≡◌, ℕ, ◌<◌, ◌≤◌, ◌&&◌, ◌||◌, [], length, get_or}
use Rattle.cc_graph.specs.Places.{has_bit, has_at, AreWide}
use Rattle.cc_graph.proofs.closure.lead_on.Given as goal

abbrev pub invariant-loop-row : goal.invariant-loop-row
invariant-loop-row l =
    record {
      wide : AreWide (length l.others) l.rows;
      done : (row place : ℕ) → row < l.row-index
          → has_at l.rows row place ≡ (has_at l.fn.rows row place ||
          (has_at l.fn.rows row l.at && has_bit l.others place));
      left : (row : ℕ) → l.row-index ≤ row → get_or l.rows row [] ≡ get_or l.fn.rows row [];
    }
