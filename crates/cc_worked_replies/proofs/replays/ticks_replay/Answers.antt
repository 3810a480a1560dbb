use Rattle.cc_worked_replies.proofs.WorkedReplays as worked
use Rattle.cc_worked_replies.proofs.replays.ticks_replay.Goals as goal

pub returns : goal.returns
returns c = worked.ticks_replay
