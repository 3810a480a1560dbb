use Rattle.cc_replay.proofs.WorkedReplays as worked
use Rattle.cc_replay.proofs.trace_examples.fuel_is_counted.Goals as goal

pub returns : goal.returns
returns c = worked.fuel_is_counted
