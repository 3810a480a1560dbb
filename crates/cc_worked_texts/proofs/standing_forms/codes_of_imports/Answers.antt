use Rattle.cc_worked_texts.proofs.WorkedStandingForms as worked
use Rattle.cc_worked_texts.proofs.standing_forms.codes_of_imports.Goals as goal

pub returns : goal.returns
returns c = worked.codes_of_imports
