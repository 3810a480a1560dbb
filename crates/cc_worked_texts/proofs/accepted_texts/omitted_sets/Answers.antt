use Rattle.cc_worked_texts.proofs.WorkedAcceptedTexts as worked
use Rattle.cc_worked_texts.proofs.accepted_texts.omitted_sets.Goals as goal

pub returns : goal.returns
returns c = worked.omitted_sets
