use Rattle.cc_worked_replies.proofs.WorkedReplays as worked
use Rattle.cc_worked_replies.proofs.replays.runs_replay.Goals as goal

pub returns : goal.returns
returns c = worked.runs_replay
