use Rattle.cc_worked_texts.proofs.WorkedTokenVerdicts as worked
use Rattle.cc_worked_texts.proofs.token_verdicts.comments.Goals as goal

pub returns : goal.returns
returns c = worked.comments
