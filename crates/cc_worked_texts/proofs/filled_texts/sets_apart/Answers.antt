use Rattle.cc_worked_texts.proofs.WorkedFilledTexts as worked
use Rattle.cc_worked_texts.proofs.filled_texts.sets_apart.Goals as goal

pub returns : goal.returns
returns c = worked.sets_apart
