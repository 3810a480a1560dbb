use Rattle.cc_mismatch.specs.Descents.{IsOnTheWay}
use Rattle.cc_mismatch.specs.Views.{pair_of}
use Rattle.cc_mismatch.proofs.descent.descend.Given as goal

abbrev pub invariant-loop-parts : goal.invariant-loop-parts
invariant-loop-parts l = IsOnTheWay (pair_of l.fn.from) (pair_of l.parts) l.left

abbrev pub decreases-loop-parts : goal.decreases-loop-parts
decreases-loop-parts l = l.left
