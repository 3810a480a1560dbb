use Rattle.cc_worked_texts.proofs.WorkedStandingForms as worked
use Rattle.cc_worked_texts.proofs.standing_forms.standing_by_name.Goals as goal

pub returns : goal.returns
returns c = worked.standing_by_name
