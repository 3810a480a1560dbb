use Rattle.cc_worked_texts.proofs.WorkedAcceptedTexts as worked
use Rattle.cc_worked_texts.proofs.accepted_texts.fillings.Goals as goal

pub returns : goal.returns
returns c = worked.fillings
