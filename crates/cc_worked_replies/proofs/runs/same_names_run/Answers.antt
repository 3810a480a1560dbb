use Rattle.cc_worked_replies.proofs.WorkedRuns as worked
use Rattle.cc_worked_replies.proofs.runs.same_names_run.Goals as goal

pub returns : goal.returns
returns c = worked.same_names_run
