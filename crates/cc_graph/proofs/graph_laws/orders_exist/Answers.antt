use Rattle.cc_graph.proofs.OrderExistence.{orders_exist}
use Rattle.cc_graph.proofs.graph_laws.orders_exist.Goals as goal

pub returns : goal.returns
returns c = orders_exist
