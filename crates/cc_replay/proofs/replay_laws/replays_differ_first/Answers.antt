use Rattle.cc_replay.proofs.FirstDifferences.{replays_differ_first}
use Rattle.cc_replay.proofs.replay_laws.replays_differ_first.Goals as goal

pub returns : goal.returns
returns c = replays_differ_first
