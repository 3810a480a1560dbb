use Rattle.std.proofs.Common.{◌≡◌, ℕ, ◌≤◌, false, length}
use Rattle.cc_core.specs.Substitution.{filled_set}
use Rattle.cc_core.specs.TermViews.{context_of}
use Rattle.cc_checking.specs.Fillings.{filled_context}
use Rattle.cc_sets.specs.Marked.{is_marked}
use Rattle.cc_sets.proofs.SubcapturingSearch.{Stands}
use Rattle.cc_solve.specs.Solutions.{filling_of}
use Rattle.cc_solve.proofs.judging.is_below.Given as goal

abbrev pub invariant-loop-position : goal.invariant-loop-position
invariant-loop-position l =
    record {
      turns : ℕ;
      stands : Stands (filled_context (filling_of l.filling) (context_of l.ctx)) (filled_set (filling_of l.filling) l.left) l.right l.marks 0 turns;
      room : length l.marks ≡ length l.fn.marks;
      limited : l.limit ≤ length l.ctx;
      above : (position : ℕ) → l.limit ≤ position → is_marked position l.marks ≡ false;
    }

abbrev pub decreases-loop-position : goal.decreases-loop-position
decreases-loop-position l = l.limit
