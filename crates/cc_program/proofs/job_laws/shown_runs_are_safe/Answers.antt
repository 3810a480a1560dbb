use Rattle.cc_program.proofs.SoundReplies.{shown_runs_are_safe, shown_tasks_are_safe}
use Rattle.cc_program.proofs.job_laws.shown_runs_are_safe.Goals as goal

pub returns-clause-runs : goal.returns-clause-runs
returns-clause-runs c = shown_runs_are_safe

pub returns-clause-tasks : goal.returns-clause-tasks
returns-clause-tasks c = shown_tasks_are_safe
