use Rattle.cc_worked_texts.proofs.WorkedStandingForms as worked
use Rattle.cc_worked_texts.proofs.standing_forms.imports_of_texts.Goals as goal

pub returns : goal.returns
returns c = worked.imports_of_texts
