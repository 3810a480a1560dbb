use Rattle.cc_vouching_laws.proofs.FilledRights.{accepted_fills}
use Rattle.cc_vouching_laws.proofs.completeness_laws.accepted_rights_are_filled.Goals as goal

pub returns : goal.returns
returns c = accepted_fills
