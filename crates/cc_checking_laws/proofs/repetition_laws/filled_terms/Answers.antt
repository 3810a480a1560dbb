use Rattle.cc_checking_laws.proofs.RepeatedFindings.{filled_again}
use Rattle.cc_checking_laws.proofs.repetition_laws.filled_terms.Goals as goal

pub returns : goal.returns
returns c = filled_again
