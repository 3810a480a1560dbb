use Rattle.cc_core.specs.TermViews.{shape_of}
use Rattle.cc_core.specs.Traversal.{act}
use Rattle.cc_core.specs.Actions.{action_of}
use Rattle.cc_core.specs.ActingShapes.{in_turn, turns_left, IsBehind}
use Rattle.cc_core.proofs.acting.acted_shape.Given as goal

abbrev pub invariant-loop-next : goal.invariant-loop-next
invariant-loop-next l =
    IsBehind (action_of l.action) (shape_of l.shape) (act (action_of l.action) l.fn.depth (shape_of l.shape))
    (in_turn l.waiting.items) l.became

abbrev pub decreases-loop-next : goal.decreases-loop-next
decreases-loop-next l = turns_left (in_turn l.waiting.items)
