use Rattle.cc_known.proofs.KeptDemands.{test_of_sets_decides}
use Rattle.cc_type.proofs.keeping_laws.test_of_sets.Goals as goal

pub returns : goal.returns
returns c = test_of_sets_decides
