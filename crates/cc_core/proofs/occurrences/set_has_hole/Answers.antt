use Rattle.cc_core.proofs.OccurrenceTests.{says, hole-decides}
use Rattle.cc_core.proofs.occurrences.set_has_hole.Goals as goal

pub returns : goal.returns
returns c = says c.is_in_set.ensures (hole-decides.in_set 0 c.args.set.now)
