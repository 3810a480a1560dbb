use Rattle.cc_core.specs.TermViews.{type_of}
use Rattle.cc_core.proofs.OccurrenceTests.{says, decided_type, position-decides}
use Rattle.cc_core.proofs.occurrences.occurs_in_type.Goals as goal

pub returns : goal.returns
returns c = says c.is_in_type.ensures (decided_type _ _ (position-decides c.args.position) 0 (type_of c.args.ty.now))
