use Rattle.cc_entry_laws.proofs.Linked.{elements_are_linked}
use Rattle.cc_entry_laws.proofs.present_link_laws.elements_of_signatures_are_linked.Goals as goal

pub returns : goal.returns
returns c = elements_are_linked
