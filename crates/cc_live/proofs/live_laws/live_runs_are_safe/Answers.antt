use Rattle.cc_live.proofs.SafeLives.{live_runs_are_safe}
use Rattle.cc_live.proofs.live_laws.live_runs_are_safe.Goals as goal

pub returns : goal.returns
returns c = live_runs_are_safe
