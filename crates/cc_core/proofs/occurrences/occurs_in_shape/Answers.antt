use Rattle.cc_core.specs.TermViews.{shape_of}
use Rattle.cc_core.proofs.OccurrenceTests.{says, decided, position-decides}
use Rattle.cc_core.proofs.occurrences.occurs_in_shape.Goals as goal

pub returns : goal.returns
returns c = says c.is_in_shape.ensures (decided _ _ (position-decides c.args.position) 0 (shape_of c.args.shape.now))
