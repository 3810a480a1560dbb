use Rattle.cc_worked_replies.proofs.WorkedReplies as worked
use Rattle.cc_worked_replies.proofs.written.replies_are_written.Goals as goal

pub returns : goal.returns
returns c = worked.replies_are_written
