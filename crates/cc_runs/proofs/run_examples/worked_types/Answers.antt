use Rattle.cc_runs.proofs.WorkedTypes.{leaving_at_once_is_typed}
use Rattle.cc_runs.proofs.run_examples.worked_types.Goals as goal

pub returns : goal.returns
returns c = leaving_at_once_is_typed
