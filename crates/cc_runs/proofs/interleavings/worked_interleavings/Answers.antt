use Rattle.cc_runs.proofs.WorkedTasks.{shared_counter_runs, tasks_apart_run, fuel_is_shared, boundaries_are_their_own}
use Rattle.cc_runs.proofs.interleavings.worked_interleavings.Goals as goal

pub returns : goal.returns
returns c =
    record {
      shared = shared_counter_runs;
      apart = tasks_apart_run;
      fuel = fuel_is_shared;
      boundaries = boundaries_are_their_own;
    }
