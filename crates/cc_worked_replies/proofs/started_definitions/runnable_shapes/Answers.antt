use Rattle.cc_worked_replies.proofs.WorkedStartedDefinitions as worked
use Rattle.cc_worked_replies.proofs.started_definitions.runnable_shapes.Goals as goal

pub returns : goal.returns
returns c = worked.runnable_shapes
