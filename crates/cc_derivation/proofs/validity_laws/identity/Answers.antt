use Rattle.cc_derivation.proofs.WorkedDerivations.{identity_is_whole, claim_without_the_variable, root_alone}
use Rattle.cc_derivation.proofs.validity_laws.identity.Goals as goal

pub returns : goal.returns
returns c =
    record { whole = identity_is_whole; changed = claim_without_the_variable; root_alone = root_alone }
