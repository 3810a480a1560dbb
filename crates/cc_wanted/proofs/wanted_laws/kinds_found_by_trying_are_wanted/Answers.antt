use Rattle.cc_wanted.proofs.WantedKinds as kinds
use Rattle.cc_wanted.proofs.wanted_laws.kinds_found_by_trying_are_wanted.Goals as goal

pub returns : goal.returns
returns c = kinds.kinds_found_by_trying_are_wanted
