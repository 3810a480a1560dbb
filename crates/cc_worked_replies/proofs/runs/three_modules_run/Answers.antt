use Rattle.cc_worked_replies.proofs.WorkedRuns as worked
use Rattle.cc_worked_replies.proofs.runs.three_modules_run.Goals as goal

pub returns : goal.returns
returns c = worked.three_modules_run
