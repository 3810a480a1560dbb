use Rattle.cc_checking_laws.proofs.OneOutcome.{one_outcome}
use Rattle.cc_checking_laws.proofs.inference_laws.one_outcome.Goals as goal

pub returns : goal.returns
returns c = one_outcome
