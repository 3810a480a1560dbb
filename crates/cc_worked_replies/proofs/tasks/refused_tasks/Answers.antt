use Rattle.cc_worked_replies.proofs.WorkedTasks as worked
use Rattle.cc_worked_replies.proofs.tasks.refused_tasks.Goals as goal

pub returns : goal.returns
returns c = worked.refused_tasks
