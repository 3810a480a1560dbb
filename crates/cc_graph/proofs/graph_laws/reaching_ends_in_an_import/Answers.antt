use Rattle.cc_graph.proofs.Paths.{last_step, path_to_last}
use Rattle.cc_graph.specs.Graph.{does_import}
use Rattle.cc_graph.proofs.graph_laws.reaching_ends_in_an_import.Goals as goal

pub returns : goal.returns
returns c = λ imports from to.
    (λ path. last_step (does_import imports) path, λ (last, way, final). path_to_last (does_import imports) way final)
