use Rattle.cc_entry_laws.proofs.AcceptedModules.{linked_orders}
use Rattle.cc_entry_laws.proofs.entry_laws.accepted_orders_are_link_orders.Goals as goal

pub returns : goal.returns
returns c = linked_orders
