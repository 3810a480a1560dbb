use Rattle.cc_why.proofs.InsideNames.{nothing_added}
use Rattle.cc_why.proofs.definitions.put_own.Goals as goal

pub returns-in-None : goal.returns-in-None
returns-in-None c = nothing_added c.args.names.now.items c.args.defs.now c.args.at c.in-None.ensures.lookup.0
