use Rattle.cc_core.proofs.SubcapturingLemmas.{cap_below}
use Rattle.cc_core.proofs.subcapturing_laws.cap_is_below_no_other.Goals as goal

pub returns : goal.returns
returns c = cap_below
