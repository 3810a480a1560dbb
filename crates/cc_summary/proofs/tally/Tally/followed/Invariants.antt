use Rattle.std.proofs.Common.{ℕ, ◌≤◌, ◌-◌, List, ◌++◌, length, take}
use Rattle.cc_summary.specs.Summaries.{IsTally}
use Rattle.cc_summary.proofs.tally.Tally.followed.Given as goal

-- what is kept is that of the text with what was taken behind it
abbrev pub invariant-loop-at : goal.invariant-loop-at
invariant-loop-at l = record {
  in_range : l.at ≤ length l.piece;
  kept : (text : List ℕ) → IsTally text l.self.lines l.self.bytes l.self.last.items l.self.ended
      → IsTally (text ++ take l.at l.piece) l.next.lines l.next.bytes l.next.last.items l.next.ended;
}

abbrev pub decreases-loop-at : goal.decreases-loop-at
decreases-loop-at l = length l.piece - l.at
