use Rattle.cc_live.proofs.WorkedLives as worked
use Rattle.cc_live.proofs.live_examples.the_host_stops.Goals as goal

pub returns : goal.returns
returns c = worked.the_host_stops
