use Rattle.cc_replay.proofs.WorkedReplays as worked
use Rattle.cc_replay.proofs.trace_examples.answers_come_from_lines.Goals as goal

pub returns : goal.returns
returns c = worked.answers_come_from_lines
