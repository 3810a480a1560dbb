use Rattle.cc_replay.proofs.AlikeReplays.{alike_replay_alike}
use Rattle.cc_replay.proofs.replay_laws.alike_replay_alike.Goals as goal

pub returns : goal.returns
returns c = alike_replay_alike
