use Rattle.cc_graph.proofs.Paths.{path_along, along_path}
use Rattle.cc_graph.specs.Graph.{does_import}
use Rattle.cc_graph.proofs.graph_laws.cycles_are_self_reach.Goals as goal

pub returns : goal.returns
returns c = λ imports name. (
  λ (between, along). path_along (does_import imports) between name name along,
  λ path. along_path
      (does_import imports) path,
)
