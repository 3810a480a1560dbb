use Rattle.std.proofs.Common.{◌≡◌, ℕ, ◌<◌, ◌≤◌, true, length}
use Rattle.std.specs.Option.{option_map}
use Rattle.cc_core.specs.Contexts.{lookup}
use Rattle.cc_core.specs.TermViews.{context_of}
use Rattle.cc_known.specs.ComparedAgain.{seen}
use Rattle.cc_known.specs.MarkedEntries.{is_marked}
use Rattle.cc_known.proofs.marked.stands_in.Given as goal

abbrev pub invariant-loop-rest : goal.invariant-loop-rest
invariant-loop-rest l =
    (p : ℕ) → l.rest ≤ p → p < length (context_of l.small) → is_marked l.marks p ≡ true
    → option_map seen (lookup (context_of l.ctx) p) ≡ option_map seen (lookup (context_of l.small) p)

abbrev pub decreases-loop-rest : goal.decreases-loop-rest
decreases-loop-rest l = l.rest
