use Rattle.cc_worked_replies.proofs.WorkedReplies as worked
use Rattle.cc_worked_replies.proofs.written.refusals_are_told.Goals as goal

pub returns : goal.returns
returns c = worked.refusals_are_told
