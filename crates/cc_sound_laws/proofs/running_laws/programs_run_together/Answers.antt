use Rattle.cc_sound_laws.proofs.Running.{programs_run_together}
use Rattle.cc_sound_laws.proofs.running_laws.programs_run_together.Goals as goal

pub returns : goal.returns
returns c = programs_run_together
