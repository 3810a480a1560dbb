use Rattle.cc_checking_laws.proofs.ForcedElements.{least_exists}
use Rattle.cc_checking_laws.proofs.VerdictsExist.{has_verdict}
use Rattle.cc_checking_laws.proofs.existence_laws.verdicts_exist.Goals as goal

pub returns : goal.returns
returns c = record { fillings = least_exists; verdicts = has_verdict }
