use Rattle.cc_worked_texts.proofs.WorkedExposedTexts as worked
use Rattle.cc_worked_texts.proofs.exposed_texts.other_heads.Goals as goal

pub returns : goal.returns
returns c = worked.other_heads
