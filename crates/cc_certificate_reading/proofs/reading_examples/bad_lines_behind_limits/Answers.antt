use Rattle.cc_certificate_reading.proofs.Limits.{string_of_201, greater_local, one_node_more, higher_node, higher_bind, higher_term}
use Rattle.cc_certificate_reading.proofs.reading_examples.bad_lines_behind_limits.Goals as goal

pub returns : goal.returns
returns c = record {
  string = string_of_201;
  local = greater_local;
  nodes = one_node_more;
  node_height = higher_node;
  bind_height = higher_bind;
  term_height = higher_term;
}
