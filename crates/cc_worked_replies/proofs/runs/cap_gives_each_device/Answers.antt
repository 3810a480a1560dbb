use Rattle.cc_worked_replies.proofs.WorkedRuns as worked
use Rattle.cc_worked_replies.proofs.runs.cap_gives_each_device.Goals as goal

pub returns : goal.returns
returns c = worked.cap_gives_each_device
