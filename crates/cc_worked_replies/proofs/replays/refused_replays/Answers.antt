use Rattle.cc_worked_replies.proofs.WorkedReplays as worked
use Rattle.cc_worked_replies.proofs.replays.refused_replays.Goals as goal

pub returns : goal.returns
returns c = worked.refused_replays
