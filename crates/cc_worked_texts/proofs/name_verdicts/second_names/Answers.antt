use Rattle.cc_worked_texts.proofs.WorkedNameVerdicts as worked
use Rattle.cc_worked_texts.proofs.name_verdicts.second_names.Goals as goal

pub returns : goal.returns
returns c = worked.second_names
