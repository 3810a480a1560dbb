use Rattle.cc_worked_replies.proofs.WorkedRuns as worked
use Rattle.cc_worked_replies.proofs.runs.type_functions_run.Goals as goal

pub returns : goal.returns
returns c = worked.type_functions_run
