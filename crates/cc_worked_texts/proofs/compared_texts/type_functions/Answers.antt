use Rattle.cc_worked_texts.proofs.WorkedComparedTexts as worked
use Rattle.cc_worked_texts.proofs.compared_texts.type_functions.Goals as goal

pub returns : goal.returns
returns c = worked.type_functions
