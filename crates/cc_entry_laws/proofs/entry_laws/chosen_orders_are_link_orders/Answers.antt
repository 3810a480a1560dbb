use Rattle.cc_entry_laws.proofs.ChosenOrders.{chosen_order}
use Rattle.cc_entry_laws.proofs.entry_laws.chosen_orders_are_link_orders.Goals as goal

pub returns : goal.returns
returns c = chosen_order
