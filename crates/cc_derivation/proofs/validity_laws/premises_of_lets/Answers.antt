use Rattle.cc_derivation.proofs.WorkedDerivations.{let_without_a_type, let_with_a_type}
use Rattle.cc_derivation.proofs.validity_laws.premises_of_lets.Goals as goal

pub returns : goal.returns
returns c = record { no_type = let_without_a_type; a_type = let_with_a_type }
