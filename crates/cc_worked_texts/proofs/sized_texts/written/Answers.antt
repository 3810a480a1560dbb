use Rattle.cc_worked_texts.proofs.WorkedSizedTexts as worked
use Rattle.cc_worked_texts.proofs.sized_texts.written.Goals as goal

pub returns : goal.returns
returns c = worked.written
