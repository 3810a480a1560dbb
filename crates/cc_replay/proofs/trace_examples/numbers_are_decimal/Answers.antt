use Rattle.cc_replay.proofs.WorkedReplays as worked
use Rattle.cc_replay.proofs.trace_examples.numbers_are_decimal.Goals as goal

pub returns : goal.returns
returns c = worked.numbers_are_decimal
