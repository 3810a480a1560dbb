use Rattle.cc_core.specs.TermViews.{context_of}
use Rattle.cc_known.proofs.DemandEnds.{Follows}
use Rattle.cc_type.proofs.demand_ends.ends_of.Given as goal

abbrev pub invariant-loop-position : goal.invariant-loop-position
invariant-loop-position l = Follows (context_of l.ctx) l.right l.left l.limit l.waiting l.ends

abbrev pub decreases-loop-position : goal.decreases-loop-position
decreases-loop-position l = l.limit
