use Rattle.cc_derivation.proofs.WorkedDerivations.{part_at_two_places}
use Rattle.cc_derivation.proofs.validity_laws.shared_parts.Goals as goal

pub returns : goal.returns
returns c = part_at_two_places
