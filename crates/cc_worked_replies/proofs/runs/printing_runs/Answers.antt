use Rattle.cc_worked_replies.proofs.WorkedRuns as worked
use Rattle.cc_worked_replies.proofs.runs.printing_runs.Goals as goal

pub returns : goal.returns
returns c = worked.printing_runs
