use Rattle.std.proofs.Common.{◌≡◌, ℕ, ◌<◌, ◌≤◌, true, false, length}
use Rattle.cc_core.specs.Contexts.{lookup}
use Rattle.cc_core.specs.TermViews.{context_of}
use Rattle.cc_known.specs.MarkedEntries.{is_marked, unmarked, occurs_where}
use Rattle.cc_known.proofs.marked.declares_marked.Given as goal

abbrev pub invariant-loop-rest : goal.invariant-loop-rest
invariant-loop-rest l =
    (p : ℕ) → l.rest ≤ p → p < length (context_of l.ctx) → is_marked l.marks p ≡ true
    → occurs_where (unmarked l.marks) (lookup (context_of l.ctx) p) ≡ false

abbrev pub decreases-loop-rest : goal.decreases-loop-rest
decreases-loop-rest l = l.rest
