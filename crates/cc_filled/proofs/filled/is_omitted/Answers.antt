use Rattle.cc_filled.proofs.DecidedFillings.{says_omitted}
use Rattle.cc_filled.proofs.filled.is_omitted.Goals as goal

pub returns : goal.returns
returns c = says_omitted c.set_has_hole.result c.args.set.now c.set_has_hole.ensures
