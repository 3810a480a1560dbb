use Rattle.cc_worked_conversations.proofs.WorkedRuns.{runs_are_spoken, denied_runs_are_spoken}
use Rattle.cc_worked_conversations.proofs.conversations.live_runs_are_spoken.Goals as goal

pub returns : goal.returns
returns c = record { runs = runs_are_spoken; denied = denied_runs_are_spoken }
