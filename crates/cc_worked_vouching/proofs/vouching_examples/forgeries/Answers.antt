use Rattle.cc_worked_vouching.proofs.WorkedReasons.{forgeries}
use Rattle.cc_worked_vouching.proofs.vouching_examples.forgeries.Goals as goal

pub returns : goal.returns
returns c = forgeries
