use Rattle.cc_runs.proofs.StepTheorem as theorem
use Rattle.cc_runs.proofs.soundness.steps_are_sound.Goals as goal

pub returns : goal.returns
returns c = record { steps = theorem.steps_are_sound }
