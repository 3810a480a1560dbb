use Rattle.cc_runs.proofs.InterleavedTasks.{devices_have_histories}
use Rattle.cc_runs.proofs.TasksApart.{tasks_apart_run_as_alone}
use Rattle.cc_runs.proofs.interleavings.tasks_share_devices_alone.Goals as goal

pub returns : goal.returns
returns c = record { histories = devices_have_histories; alone = tasks_apart_run_as_alone }
