use Rattle.cc_worked_replies.proofs.WorkedRuns as worked
use Rattle.cc_worked_replies.proofs.runs.values_are_shown.Goals as goal

pub returns : goal.returns
returns c = worked.values_are_shown
