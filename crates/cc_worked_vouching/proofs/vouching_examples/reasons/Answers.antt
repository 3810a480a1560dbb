use Rattle.cc_worked_vouching.proofs.WorkedReasons.{reasons}
use Rattle.cc_worked_vouching.proofs.vouching_examples.reasons.Goals as goal

pub returns : goal.returns
returns c = reasons
