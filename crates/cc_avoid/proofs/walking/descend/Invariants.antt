use Rattle.cc_core.specs.TermViews.{shape_of}
use Rattle.cc_avoid.specs.Avoiding.{sign_of}
use Rattle.cc_avoid.specs.WaitingShapes.{in_turn, GoesDown}
use Rattle.cc_avoid.proofs.walking.descend.Given as goal

abbrev pub invariant-loop-inner : goal.invariant-loop-inner
invariant-loop-inner g l =
    GoesDown (g.P.Positions.listed l.positions) (sign_of l.fn.sign) (shape_of l.fn.shape) (in_turn l.fn.waiting.items)
    (sign_of l.sign) (shape_of l.inner) (in_turn l.waiting.items)
