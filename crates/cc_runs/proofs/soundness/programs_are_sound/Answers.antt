use Rattle.cc_runs.proofs.RunTheorems.{typed_programs_start_soundly, moves_are_sound, soundness_is_kept, sound_states_never_get_stuck, runs_never_stop, runs_are_steps}
use Rattle.cc_runs.proofs.soundness.programs_are_sound.Goals as goal

pub returns : goal.returns
returns c =
    record {
      starts = typed_programs_start_soundly;
      moves = moves_are_sound;
      kept = soundness_is_kept;
      never_stuck = sound_states_never_get_stuck;
      never_stops = runs_never_stop;
      are_steps = runs_are_steps;
    }
