use Rattle.cc_worked_texts.proofs.WorkedNameVerdicts as worked
use Rattle.cc_worked_texts.proofs.name_verdicts.unknown_names.Goals as goal

pub returns : goal.returns
returns c = worked.unknown_names
