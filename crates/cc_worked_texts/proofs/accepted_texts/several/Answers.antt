use Rattle.cc_worked_texts.proofs.WorkedAcceptedTexts as worked
use Rattle.cc_worked_texts.proofs.accepted_texts.several.Goals as goal

pub returns : goal.returns
returns c = worked.several
