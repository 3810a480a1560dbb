use Rattle.cc_worked_texts.proofs.WorkedRefusalOrders as worked
use Rattle.cc_worked_texts.proofs.refusal_orders.demands.Goals as goal

pub returns : goal.returns
returns c = worked.demands
