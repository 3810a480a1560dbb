use Rattle.cc_worked_vouching.proofs.WorkedVouching.{vouched_for}
use Rattle.cc_worked_vouching.proofs.vouching_examples.vouched_for.Goals as goal

pub returns : goal.returns
returns c = vouched_for
