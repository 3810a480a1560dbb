use Rattle.cc_worked_texts.proofs.WorkedActedForms as worked
use Rattle.cc_worked_texts.proofs.acted_forms.acted_terms.Goals as goal

pub returns : goal.returns
returns c = worked.acted_terms
