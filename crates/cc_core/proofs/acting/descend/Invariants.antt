use Rattle.cc_core.specs.TermViews.{shape_of}
use Rattle.cc_core.specs.Actions.{action_of}
use Rattle.cc_core.specs.ActingShapes.{in_turn, GoesDown}
use Rattle.cc_core.proofs.acting.descend.Given as goal

abbrev pub invariant-loop-inner : goal.invariant-loop-inner
invariant-loop-inner l =
    GoesDown (action_of l.action) l.fn.depth (shape_of l.fn.shape) (in_turn l.fn.waiting.items) (shape_of l.inner)
    (in_turn l.waiting.items)
