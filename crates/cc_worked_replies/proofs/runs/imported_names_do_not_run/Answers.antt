use Rattle.cc_worked_replies.proofs.WorkedRuns as worked
use Rattle.cc_worked_replies.proofs.runs.imported_names_do_not_run.Goals as goal

pub returns : goal.returns
returns c = worked.imported_names_do_not_run
