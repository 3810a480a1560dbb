use Rattle.std.proofs.Common.{◌≡◌, ℕ, ◌≤◌, false, length}
use Rattle.cc_core.specs.TermViews.{context_of}
use Rattle.cc_sets.specs.Marked.{is_marked}
use Rattle.cc_solve.proofs.DeclaredChains.{Follows}
use Rattle.cc_solve.proofs.ends.ends_of.Given as goal

abbrev pub invariant-loop-position : goal.invariant-loop-position
invariant-loop-position l =
    record {
      follows : Follows l.globals (context_of l.ctx) l.set l.marks l.ends;
      room : length l.marks ≡ length l.fn.marks;
      limited : l.limit ≤ length l.ctx;
      above : (position : ℕ) → l.limit ≤ position → is_marked position l.marks ≡ false;
    }

abbrev pub decreases-loop-position : goal.decreases-loop-position
decreases-loop-position l = l.limit
