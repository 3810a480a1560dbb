use Rattle.cc_live.proofs.WorkedLives as worked
use Rattle.cc_live.proofs.live_examples.events_are_told.Goals as goal

pub returns : goal.returns
returns c = worked.events_are_told
