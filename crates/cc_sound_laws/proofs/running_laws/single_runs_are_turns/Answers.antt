use Rattle.cc_sound_laws.proofs.Running.{single_runs_are_turns}
use Rattle.cc_sound_laws.proofs.running_laws.single_runs_are_turns.Goals as goal

pub returns : goal.returns
returns c = single_runs_are_turns
