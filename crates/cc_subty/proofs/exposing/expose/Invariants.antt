use Rattle.cc_core.specs.TermViews.{shape_of, context_of}
use Rattle.cc_subty.proofs.BoundsFollowed.{LeadsAlike, spot}
use Rattle.cc_subty.proofs.exposing.expose.Given as goal

abbrev pub invariant-loop-bound : goal.invariant-loop-bound
invariant-loop-bound l = LeadsAlike (context_of l.ctx) (shape_of l.shape.value) (shape_of l.reached.value)

abbrev pub decreases-loop-bound : goal.decreases-loop-bound
decreases-loop-bound l = spot (shape_of l.reached.value)
