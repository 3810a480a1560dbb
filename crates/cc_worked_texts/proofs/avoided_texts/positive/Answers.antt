use Rattle.cc_worked_texts.proofs.WorkedAvoidedTexts as worked
use Rattle.cc_worked_texts.proofs.avoided_texts.positive.Goals as goal

pub returns : goal.returns
returns c = worked.positive
