use Rattle.cc_runs.proofs.Schedules.{schedules_are_repeated}
use Rattle.cc_runs.proofs.InterleavedTasks.{interleavings_are_turns, schedules_go_on, tasks_stay_sound, tasks_keep_their_promises}
use Rattle.cc_runs.proofs.interleavings.tasks_keep_their_promises.Goals as goal

pub returns : goal.returns
returns c =
    record {
      turns = interleavings_are_turns;
      repeated = schedules_are_repeated;
      goes_on = schedules_go_on;
      sound = tasks_stay_sound;
      promises = tasks_keep_their_promises;
    }
