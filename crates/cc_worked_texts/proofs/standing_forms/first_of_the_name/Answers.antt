use Rattle.cc_worked_texts.proofs.WorkedStandingForms as worked
use Rattle.cc_worked_texts.proofs.standing_forms.first_of_the_name.Goals as goal

pub returns : goal.returns
returns c = worked.first_of_the_name
