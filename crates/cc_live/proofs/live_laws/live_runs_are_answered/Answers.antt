use Rattle.cc_live.proofs.AnsweredLives.{live_runs_are_answered}
use Rattle.cc_live.proofs.live_laws.live_runs_are_answered.Goals as goal

pub returns : goal.returns
returns c = live_runs_are_answered
