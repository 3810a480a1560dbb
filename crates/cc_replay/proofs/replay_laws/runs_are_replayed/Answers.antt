use Rattle.cc_replay.proofs.ReplayedRuns.{runs_are_replayed}
use Rattle.cc_replay.proofs.replay_laws.runs_are_replayed.Goals as goal

pub returns : goal.returns
returns c = runs_are_replayed
