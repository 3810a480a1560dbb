use Rattle.cc_worked_texts.proofs.WorkedOccurringForms as worked
use Rattle.cc_worked_texts.proofs.occurring_forms.kinds_of_elements.Goals as goal

pub returns : goal.returns
returns c = worked.kinds_of_elements
