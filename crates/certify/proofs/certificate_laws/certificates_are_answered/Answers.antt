use Rattle.certify.proofs.Exact.{proof_is_answered, bad_line_is_answered, bad_node_is_answered, too_long_is_refused}
use Rattle.certify.proofs.certificate_laws.certificates_are_answered.Goals as goal

pub returns : goal.returns
returns c = record {
  proofs = proof_is_answered;
  bad_lines = bad_line_is_answered;
  bad_nodes = bad_node_is_answered;
  too_long = too_long_is_refused;
}
