use Rattle.cc_worked_replies.proofs.WorkedRuns as worked
use Rattle.cc_worked_replies.proofs.runs.refused_modules_do_not_run.Goals as goal

pub returns : goal.returns
returns c = worked.refused_modules_do_not_run
