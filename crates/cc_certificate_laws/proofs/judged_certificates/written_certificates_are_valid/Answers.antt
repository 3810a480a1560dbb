use Rattle.cc_certificate_laws.proofs.ReadTrees.{written_nodes, derivations_back, judged_valid}
use Rattle.cc_certificate_laws.proofs.judged_certificates.written_certificates_are_valid.Goals as goal

pub returns : goal.returns
returns c = record { nodes = written_nodes; read_back = derivations_back; judged = judged_valid }
