use Rattle.cc_worked_texts.proofs.WorkedTokenVerdicts as worked
use Rattle.cc_worked_texts.proofs.token_verdicts.lines_and_columns.Goals as goal

pub returns : goal.returns
returns c = worked.lines_and_columns
