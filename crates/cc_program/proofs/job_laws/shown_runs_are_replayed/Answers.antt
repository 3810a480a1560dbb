use Rattle.cc_program.proofs.ReplayedRuns.{shown_runs_are_replayed}
use Rattle.cc_program.proofs.SoundReplies.{agreeing_traces_keep, differences_are_first}
use Rattle.cc_program.proofs.job_laws.shown_runs_are_replayed.Goals as goal

pub returns-clause-traces : goal.returns-clause-traces
returns-clause-traces c = agreeing_traces_keep

pub returns-clause-differences : goal.returns-clause-differences
returns-clause-differences c = differences_are_first

pub returns-clause-runs : goal.returns-clause-runs
returns-clause-runs c = shown_runs_are_replayed
