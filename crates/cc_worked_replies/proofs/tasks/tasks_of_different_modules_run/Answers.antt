use Rattle.cc_worked_replies.proofs.WorkedTasks as worked
use Rattle.cc_worked_replies.proofs.tasks.tasks_of_different_modules_run.Goals as goal

pub returns : goal.returns
returns c = worked.tasks_of_different_modules_run
