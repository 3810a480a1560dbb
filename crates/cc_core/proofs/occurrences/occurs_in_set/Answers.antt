use Rattle.cc_core.proofs.OccurrenceTests.{says, position-decides}
use Rattle.cc_core.proofs.occurrences.occurs_in_set.Goals as goal

pub returns : goal.returns
returns c = says c.is_in_set.ensures ((position-decides c.args.position).in_set 0 c.args.set.now)
