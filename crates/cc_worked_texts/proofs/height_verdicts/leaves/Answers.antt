use Rattle.cc_worked_texts.proofs.WorkedHeightVerdicts as worked
use Rattle.cc_worked_texts.proofs.height_verdicts.leaves.Goals as goal

pub returns : goal.returns
returns c = worked.leaves
