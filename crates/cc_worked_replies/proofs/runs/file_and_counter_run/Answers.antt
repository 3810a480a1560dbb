use Rattle.cc_worked_replies.proofs.WorkedRuns as worked
use Rattle.cc_worked_replies.proofs.runs.file_and_counter_run.Goals as goal

pub returns : goal.returns
returns c = worked.file_and_counter_run
