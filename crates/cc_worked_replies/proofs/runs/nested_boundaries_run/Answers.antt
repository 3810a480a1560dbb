use Rattle.cc_worked_replies.proofs.WorkedRuns as worked
use Rattle.cc_worked_replies.proofs.runs.nested_boundaries_run.Goals as goal

pub returns : goal.returns
returns c = worked.nested_boundaries_run
