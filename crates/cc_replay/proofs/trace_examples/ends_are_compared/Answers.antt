use Rattle.cc_replay.proofs.WorkedReplays as worked
use Rattle.cc_replay.proofs.trace_examples.ends_are_compared.Goals as goal

pub returns : goal.returns
returns c = worked.ends_are_compared
