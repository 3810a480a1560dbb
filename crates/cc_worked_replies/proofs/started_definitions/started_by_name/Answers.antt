use Rattle.cc_worked_replies.proofs.WorkedStartedDefinitions as worked
use Rattle.cc_worked_replies.proofs.started_definitions.started_by_name.Goals as goal

pub returns : goal.returns
returns c = worked.started_by_name
