use Rattle.cc_checking_laws.proofs.Reordering.{order_does_not_matter}
use Rattle.cc_checking_laws.proofs.filling_laws.order.Goals as goal

pub returns : goal.returns
returns c = order_does_not_matter
