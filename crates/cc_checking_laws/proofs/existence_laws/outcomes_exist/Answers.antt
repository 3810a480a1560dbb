use Rattle.cc_checking_laws.proofs.SettledTerms.{has_outcome, is_checked}
use Rattle.cc_checking_laws.proofs.existence_laws.outcomes_exist.Goals as goal

pub returns : goal.returns
returns c = record { terms = has_outcome; definitions = is_checked }
