use Rattle.cc_runs.proofs.WorkedTasks.{schedules_are_turned}
use Rattle.cc_runs.proofs.interleavings.worked_schedules.Goals as goal

pub returns : goal.returns
returns c = schedules_are_turned
