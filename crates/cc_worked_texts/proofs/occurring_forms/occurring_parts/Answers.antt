use Rattle.cc_worked_texts.proofs.WorkedOccurringForms as worked
use Rattle.cc_worked_texts.proofs.occurring_forms.occurring_parts.Goals as goal

pub returns : goal.returns
returns c = worked.occurring_parts
