use Rattle.cc_certificate_laws.proofs.FoundValid.{tree_back, tree_of_definition_back}
use Rattle.cc_certificate_laws.proofs.judged_certificates.trees_are_read_back.Goals as goal

pub returns : goal.returns
returns c = record { written = tree_back; definitions = tree_of_definition_back }
