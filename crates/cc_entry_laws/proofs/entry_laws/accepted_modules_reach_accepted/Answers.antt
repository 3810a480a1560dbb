use Rattle.cc_entry_laws.proofs.AcceptedModules.{reach_accepted}
use Rattle.cc_entry_laws.proofs.entry_laws.accepted_modules_reach_accepted.Goals as goal

pub returns : goal.returns
returns c = reach_accepted
