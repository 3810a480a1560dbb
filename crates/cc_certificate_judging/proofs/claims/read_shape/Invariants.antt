use Rattle.std.proofs.Common.{◌≡◌, ◌-◌}
use Rattle.cc_core.specs.TermViews.{shape_of}
use Rattle.cc_core.specs.Traversal.{act}
use Rattle.cc_certificate_judging.specs.Judging.{reading}
use Rattle.cc_certificate_judging.specs.ReadingShapes.{in_turn, all_around, turns_left}
use Rattle.cc_certificate_judging.proofs.claims.read_shape.Given as goal

abbrev pub invariant-loop-next : goal.invariant-loop-next
invariant-loop-next l =
    all_around (reading l.names (l.entries - l.names)) (in_turn l.waiting.items) (shape_of l.read.value)
    ≡ act (reading l.names (l.entries - l.names)) l.fn.depth (shape_of l.shape.value)

abbrev pub decreases-loop-next : goal.decreases-loop-next
decreases-loop-next l = turns_left (in_turn l.waiting.items)
