use Rattle.cc_core.specs.TermViews.{shape_of}
use Rattle.cc_known.proofs.MeasuredShapes.{meets_shape}
use Rattle.cc_known.proofs.measures.occurs_in_measured.Goals as goal

pub returns-then-measure-position : goal.returns-then-measure-position
returns-then-measure-position c = λ fails.
    meets_shape c.args.position (shape_of c.args.shape.now) (c.occurs_along.ensures fails)
