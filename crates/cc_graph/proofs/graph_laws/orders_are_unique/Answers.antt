use Rattle.cc_graph.proofs.OrderLaws.{orders_are_unique}
use Rattle.cc_graph.proofs.graph_laws.orders_are_unique.Goals as goal

pub returns : goal.returns
returns c = orders_are_unique
