use Rattle.cc_replay.proofs.WrittenRuns.{written_runs_are_replayed}
use Rattle.cc_replay.proofs.replay_laws.written_runs_are_replayed.Goals as goal

pub returns : goal.returns
returns c = written_runs_are_replayed
