use Rattle.cc_worked_replies.proofs.WorkedReplays as worked
use Rattle.cc_worked_replies.proofs.replays.printing_replays.Goals as goal

pub returns : goal.returns
returns c = worked.printing_replays
