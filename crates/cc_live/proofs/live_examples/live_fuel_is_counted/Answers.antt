use Rattle.cc_live.proofs.WorkedLives as worked
use Rattle.cc_live.proofs.live_examples.live_fuel_is_counted.Goals as goal

pub returns : goal.returns
returns c = worked.live_fuel_is_counted
