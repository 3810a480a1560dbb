use Rattle.cc_worked_runs.proofs.WorkedInterleavedTexts as worked
use Rattle.cc_worked_runs.proofs.tasks.interleaved_texts.Goals as goal

pub returns : goal.returns
returns c =
    record {
      turned = worked.schedules_are_turned;
      passed = worked.ended_tasks_are_passed_over;
      stuck = worked.a_stuck_task_stops_all;
    }
