use Rattle.cc_graph.proofs.OrderLaws.{orders_list_present_modules}
use Rattle.cc_graph.proofs.graph_laws.orders_list_present_modules.Goals as goal

pub returns : goal.returns
returns c = orders_list_present_modules
