use Rattle.cc_known.proofs.ComparedAgain.{compared_again}
use Rattle.cc_type.proofs.keeping_laws.compared_again.Goals as goal

pub returns : goal.returns
returns c = compared_again
