use Rattle.cc_graph.proofs.OrderLaws.{orders_put_imports_first}
use Rattle.cc_graph.proofs.graph_laws.orders_put_imports_first.Goals as goal

pub returns : goal.returns
returns c = orders_put_imports_first
