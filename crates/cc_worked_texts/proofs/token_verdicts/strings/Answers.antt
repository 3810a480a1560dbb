use Rattle.cc_worked_texts.proofs.WorkedTokenVerdicts as worked
use Rattle.cc_worked_texts.proofs.token_verdicts.strings.Goals as goal

pub returns : goal.returns
returns c = worked.strings
