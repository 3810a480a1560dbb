use Rattle.cc_worked_texts.proofs.WorkedStandingForms as worked
use Rattle.cc_worked_texts.proofs.standing_forms.behind_others.Goals as goal

pub returns : goal.returns
returns c = worked.behind_others
