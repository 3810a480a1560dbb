use Rattle.cc_graph.proofs.Paths.{reaches-path, path-reaches}
use Rattle.cc_graph.proofs.graph_laws.reaching_is_decided.Goals as goal

pub returns : goal.returns
returns c = λ imports from to. (λ h. reaches-path imports from to h, λ path. path-reaches imports from to path)
