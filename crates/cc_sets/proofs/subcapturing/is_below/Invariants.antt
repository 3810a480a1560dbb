use Rattle.std.proofs.Common.{◌≡◌, ℕ, ◌≤◌, false, length}
use Rattle.cc_core.specs.TermViews.{context_of}
use Rattle.cc_sets.specs.Marked.{is_marked}
use Rattle.cc_sets.proofs.SubcapturingSearch.{Stands}
use Rattle.cc_sets.proofs.subcapturing.is_below.Given as goal

abbrev pub invariant-loop-position : goal.invariant-loop-position
invariant-loop-position g l =
    record {
      stands : Stands (context_of l.ctx) l.left l.right l.marks l.fn.steps l.steps;
      room : length l.marks ≡ length l.fn.marks;
      limited : l.limit ≤ length l.ctx;
      above : (position : ℕ) → l.limit ≤ position → is_marked position l.marks ≡ false;
    }

abbrev pub decreases-loop-position : goal.decreases-loop-position
decreases-loop-position g l = l.limit
