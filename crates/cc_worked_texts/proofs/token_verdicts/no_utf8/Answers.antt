use Rattle.cc_worked_texts.proofs.WorkedTokenVerdicts as worked
use Rattle.cc_worked_texts.proofs.token_verdicts.no_utf8.Goals as goal

pub returns : goal.returns
returns c = worked.no_utf8
