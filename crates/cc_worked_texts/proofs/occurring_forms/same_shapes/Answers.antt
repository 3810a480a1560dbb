use Rattle.cc_worked_texts.proofs.WorkedOccurringForms as worked
use Rattle.cc_worked_texts.proofs.occurring_forms.same_shapes.Goals as goal

pub returns : goal.returns
returns c = worked.same_shapes
