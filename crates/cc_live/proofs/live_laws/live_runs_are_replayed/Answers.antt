use Rattle.cc_live.proofs.AnsweredLives.{live_runs_are_replayed}
use Rattle.cc_live.proofs.live_laws.live_runs_are_replayed.Goals as goal

pub returns : goal.returns
returns c = live_runs_are_replayed
