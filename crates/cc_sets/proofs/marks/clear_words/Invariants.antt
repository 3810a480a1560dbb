use Rattle.std.proofs.Common.{◌≡◌, ℕ, ◌<◌, ◌≤◌, length, get_or}
use Rattle.cc_sets.proofs.marks.clear_words.Given as goal

abbrev pub invariant-loop-at : goal.invariant-loop-at
invariant-loop-at l =
    (length l.words ≡ length l.fn.words)
    × ((k : ℕ) → k < l.at → get_or l.words k 0 ≡ 0) × ((k : ℕ) → l.at ≤ k → get_or l.words k 0 ≡ get_or l.fn.words k 0)
