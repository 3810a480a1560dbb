use Rattle.cc_core.specs.TermViews.{shape_of}
use Rattle.cc_avoid.proofs.FreePositions as free
use Rattle.cc_avoid.proofs.positions.is_free.Goals as goal

pub returns : goal.returns
returns c = free.is_free c.occurs_in_shape.result c.args.position (shape_of c.args.shape.now) c.occurs_in_shape.ensures
