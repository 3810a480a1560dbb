use Rattle.cc_worked_texts.proofs.WorkedTokenVerdicts as worked
use Rattle.cc_worked_texts.proofs.token_verdicts.text_ends.Goals as goal

pub returns : goal.returns
returns c = worked.text_ends
