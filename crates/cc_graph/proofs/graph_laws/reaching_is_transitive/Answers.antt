use Rattle.cc_graph.proofs.Paths.{path_on}
use Rattle.cc_graph.specs.Graph.{does_import}
use Rattle.cc_graph.proofs.graph_laws.reaching_is_transitive.Goals as goal

pub returns : goal.returns
returns c = λ imports from between to first second. path_on (does_import imports) first second
