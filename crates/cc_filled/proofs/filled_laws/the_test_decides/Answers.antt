use Rattle.cc_filled.proofs.DecidedFillings.{filled_decides}
use Rattle.cc_filled.proofs.filled_laws.the_test_decides.Goals as goal

pub returns : goal.returns
returns c = filled_decides
