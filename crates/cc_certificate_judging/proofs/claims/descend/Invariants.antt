use Rattle.std.proofs.Common.{◌-◌}
use Rattle.cc_core.specs.TermViews.{shape_of}
use Rattle.cc_certificate_judging.specs.Judging.{reading}
use Rattle.cc_certificate_judging.specs.ReadingShapes.{in_turn, GoesDown}
use Rattle.cc_certificate_judging.proofs.claims.descend.Given as goal

abbrev pub invariant-loop-variable : goal.invariant-loop-variable
invariant-loop-variable l =
    GoesDown (reading l.names (l.entries - l.names)) l.fn.depth (shape_of l.fn.shape.value) (in_turn l.fn.waiting.items)
    (shape_of l.inner.value) (in_turn l.waiting.items)
