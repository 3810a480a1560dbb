use Rattle.cc_checking_laws.proofs.StayingDefinitions.{definitions_stay}
use Rattle.cc_checking_laws.proofs.staying_laws.derivations_of_definitions.Goals as goal

pub returns : goal.returns
returns c = definitions_stay
