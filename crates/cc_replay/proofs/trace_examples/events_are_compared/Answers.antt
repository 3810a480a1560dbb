use Rattle.cc_replay.proofs.WorkedReplays as worked
use Rattle.cc_replay.proofs.trace_examples.events_are_compared.Goals as goal

pub returns : goal.returns
returns c = worked.events_are_compared
