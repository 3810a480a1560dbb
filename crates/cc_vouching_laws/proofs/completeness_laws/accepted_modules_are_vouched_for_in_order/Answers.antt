use Rattle.cc_vouching_laws.proofs.OrderedAnswers.{accepted_modules_in_order}
use Rattle.cc_vouching_laws.proofs.completeness_laws.accepted_modules_are_vouched_for_in_order.Goals as goal

pub returns : goal.returns
returns c = accepted_modules_in_order
