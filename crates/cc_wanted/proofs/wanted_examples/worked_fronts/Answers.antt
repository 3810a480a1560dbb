use Rattle.cc_wanted.proofs.WorkedFronts as worked
use Rattle.cc_wanted.proofs.wanted_examples.worked_fronts.Goals as goal

pub returns : goal.returns
returns c = worked.worked_fronts
