use Rattle.cc_certificate_judging.proofs.WorkedAnswers.{identity_is_valid, wrong_type_is_a_bad_node, wrong_premise_is_a_bad_line, no_node_is_a_bad_line, nothing_is_a_bad_line}
use Rattle.cc_certificate_judging.proofs.judging_laws.worked_answers.Goals as goal

pub returns : goal.returns
returns c = record {
  valid = identity_is_valid;
  node = wrong_type_is_a_bad_node;
  premise = wrong_premise_is_a_bad_line;
  no_node = no_node_is_a_bad_line;
  nothing = nothing_is_a_bad_line;
}
