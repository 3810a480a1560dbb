use Rattle.cc_worked_texts.proofs.WorkedTokenVerdicts as worked
use Rattle.cc_worked_texts.proofs.token_verdicts.white_space.Goals as goal

pub returns : goal.returns
returns c = worked.white_space
