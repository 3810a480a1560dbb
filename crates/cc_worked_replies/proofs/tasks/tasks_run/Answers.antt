use Rattle.cc_worked_replies.proofs.WorkedTasks as worked
use Rattle.cc_worked_replies.proofs.tasks.tasks_run.Goals as goal

pub returns : goal.returns
returns c = worked.tasks_run
