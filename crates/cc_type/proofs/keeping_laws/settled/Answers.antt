use Rattle.cc_known.proofs.KeptDemands.{settled_is_served}
use Rattle.cc_known.proofs.LostDemands.{lost_is_never_served}
use Rattle.cc_type.proofs.keeping_laws.settled.Goals as goal

pub returns : goal.returns
returns c = record { served = settled_is_served; never_served = lost_is_never_served }
