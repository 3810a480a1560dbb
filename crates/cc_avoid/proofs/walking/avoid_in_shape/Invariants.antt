use Rattle.cc_core.specs.TermViews.{shape_of}
use Rattle.cc_avoid.specs.AvoidedTogether.{shape_avoiding}
use Rattle.cc_avoid.specs.Avoiding.{sign_of}
use Rattle.cc_avoid.specs.WaitingShapes.{in_turn, turns_left, IsBehind}
use Rattle.cc_avoid.proofs.walking.avoid_in_shape.Given as goal

abbrev pub invariant-loop-next : goal.invariant-loop-next
invariant-loop-next g l =
    IsBehind (g.P.Positions.listed l.positions) (shape_of l.shape)
    (shape_avoiding (sign_of l.fn.sign) (g.P.Positions.listed l.positions) (shape_of l.shape)) (in_turn l.waiting.items)
    l.became

abbrev pub decreases-loop-next : goal.decreases-loop-next
decreases-loop-next g l = turns_left (in_turn l.waiting.items)
