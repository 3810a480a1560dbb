use Rattle.cc_worked_texts.proofs.WorkedCapturedTexts as worked
use Rattle.cc_worked_texts.proofs.captured_texts.lets.Goals as goal

pub returns : goal.returns
returns c = worked.lets
