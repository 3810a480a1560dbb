use Rattle.cc_runs.proofs.EntryTasks.{ends_are_of_their_tasks, entries_run_interleaved}
use Rattle.cc_runs.proofs.interleavings.entries_run_interleaved.Goals as goal

pub returns : goal.returns
returns c = record { ends = ends_are_of_their_tasks; interleaved = entries_run_interleaved }
