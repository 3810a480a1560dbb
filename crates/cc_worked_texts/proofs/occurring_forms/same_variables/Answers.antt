use Rattle.cc_worked_texts.proofs.WorkedOccurringForms as worked
use Rattle.cc_worked_texts.proofs.occurring_forms.same_variables.Goals as goal

pub returns : goal.returns
returns c = worked.same_variables
