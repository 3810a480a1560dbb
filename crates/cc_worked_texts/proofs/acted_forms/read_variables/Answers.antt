use Rattle.cc_worked_texts.proofs.WorkedActedForms as worked
use Rattle.cc_worked_texts.proofs.acted_forms.read_variables.Goals as goal

pub returns : goal.returns
returns c = worked.read_variables
