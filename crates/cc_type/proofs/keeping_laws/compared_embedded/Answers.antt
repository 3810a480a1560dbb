use Rattle.cc_known.proofs.ComparedAgain.{compared_embedded, settled_embedded}
use Rattle.cc_type.proofs.keeping_laws.compared_embedded.Goals as goal

pub returns : goal.returns
returns c = record { compared = compared_embedded; settled = settled_embedded }
