use Rattle.cc_runs.proofs.LocalSteps.{steps_depend_on_what_they_reach, steps_change_what_they_reach}
use Rattle.cc_runs.proofs.interleavings.steps_are_local.Goals as goal

pub returns : goal.returns
returns c = record { depends = steps_depend_on_what_they_reach; changes = steps_change_what_they_reach }
