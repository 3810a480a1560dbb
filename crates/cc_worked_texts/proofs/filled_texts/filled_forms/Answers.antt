use Rattle.cc_worked_texts.proofs.WorkedFilledTexts as worked
use Rattle.cc_worked_texts.proofs.filled_texts.filled_forms.Goals as goal

pub returns : goal.returns
returns c = worked.filled_forms
