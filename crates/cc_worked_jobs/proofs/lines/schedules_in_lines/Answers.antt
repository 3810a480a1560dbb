use Rattle.cc_worked_jobs.proofs.WorkedLines as worked
use Rattle.cc_worked_jobs.proofs.lines.schedules_in_lines.Goals as goal

pub returns : goal.returns
returns c =
    record {
      tasks = worked.schedules_have_tasks_alone;
      words = worked.schedules_are_words;
    }
