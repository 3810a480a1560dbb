use Rattle.cc_core.proofs.OccurrenceTests.{hole-decides}
use Rattle.cc_type.proofs.LoggedDemands.{same_answers}
use Rattle.cc_type.proofs.log.has_hole.Goals as goal

pub returns : goal.returns
returns c = same_answers _ _ c.set_has_hole.ensures (hole-decides.in_set 0 c.args.set.now)
