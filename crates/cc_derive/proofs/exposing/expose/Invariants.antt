use Rattle.std.proofs.Common.{◌≡◌}
use Rattle.cc_core.specs.TermViews.{shape_of, context_of}
use Rattle.cc_checking.specs.Exposing.{exposed}
use Rattle.cc_derive.specs.Older.{older}
use Rattle.cc_derive.proofs.exposing.expose.Given as goal

abbrev pub invariant-loop-position : goal.invariant-loop-position
invariant-loop-position l =
    exposed (older l.limit (context_of l.ctx)) (shape_of l.reached.value)
    ≡ exposed (context_of l.ctx) (shape_of l.shape.value)

abbrev pub decreases-loop-position : goal.decreases-loop-position
decreases-loop-position l = l.limit
