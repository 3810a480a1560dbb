-- What interleaved runs of programs keep.
use Rattle.std.proofs.Common.{◌≡◌, ℕ, List, [], ◌∷◌, map, sym, ap, ◌∙◌}
use Rattle.std.specs.List.{AllByRecursion}
use Rattle.std.proofs.Math.Logic.{∥∥₁_elim, ∥∥₁_map}
use Rattle.cc_device.specs.Devices.{Devices}
use Rattle.cc_runs.specs.Interleavings.{World, state_of, interleave, Report, report_of}
use Rattle.cc_runs.specs.InterleavingLaws.{AreSound}
use Rattle.cc_runs.specs.SoundRuns.{HasShapesOfCells, IsSoundState}
use Rattle.cc_runs.proofs.EntryTasks.{entries_run_interleaved}
use Rattle.cc_runs.proofs.InterleavedTasks.{interleavings_are_turns, schedules_go_on, tasks_keep_their_promises, devices_have_histories}
use Rattle.cc_runs.proofs.RunTheorems.{fitting_is_by_shapes}
use Rattle.cc_runs.proofs.TasksApart.{tasks_apart_run_as_alone}
use Rattle.cc_machine.specs.declared.program.Program.{Program}
use Rattle.cc_machine.specs.Programs.{shapes_of, values_of, term_in, start_of}
use Rattle.cc_machine.proofs.Starting.{typed_start_sound}
use Rattle.cc_tasks.specs.Reports.{world_in, RunsEntries}
use Rattle.cc_tasks.specs.SoundTasks.{RunsSoundly}
use Rattle.cc_tasks.proofs.Standing.{all_at, world_now}

pub runs_entries : (programs : List Program) (devices : Devices) (schedule : List ℕ) (fuel : ℕ) (told : Report) → told ≡ report_of (interleave fuel schedule (world_in programs devices))
    → RunsEntries programs devices schedule fuel told
runs_entries programs devices schedule fuel told is entries are all = (
  is ∙ ap (λ tasks. report_of (interleave fuel schedule (world_now tasks devices))) (sym are),
  entries_run_interleaved entries devices all schedule fuel,
)

-- sound tasks
sound_run : (fuel : ℕ) (schedule : List ℕ) (world : World) → AreSound world → RunsSoundly fuel schedule world
sound_run fuel schedule world sound =
    let turns = (interleave fuel schedule world).turns in
    let last = (interleave fuel schedule world).last in
    let takes = interleavings_are_turns fuel schedule world in
    record {
      goes_on = schedules_go_on fuel schedule world sound;
      promises = tasks_keep_their_promises world last turns sound takes;
      histories = devices_have_histories world last turns sound takes;
      alone = tasks_apart_run_as_alone world last turns sound takes;
    }

-- programs start soundly
sound_start : (devices : Devices) (program : Program) → HasShapesOfCells (start_of program).store devices → ∥ IsSoundState (state_of devices (start_of program)) ∥₁
sound_start devices program fits =
    ∥∥₁_map program.typed
    (λ typed. record {
      configuration = typed_start_sound (shapes_of program) (values_of program) (term_in program) typed;
      devices = (fitting_is_by_shapes (start_of program).store devices).1 fits;
    })

sound_starts : (programs : List Program) (devices : Devices) → AllByRecursion (λ program. HasShapesOfCells (start_of program).store devices) programs
    → ∥ AllByRecursion (λ configuration. IsSoundState (state_of devices configuration)) (map start_of programs) ∥₁
sound_starts [] devices fits = ∣ tt ∣₁
sound_starts (program ∷ programs) devices fits =
    ∥∥₁_elim (sound_start devices program fits.0) (hlevel) (λ first. ∥∥₁_map (sound_starts programs devices fits.1) (λ others. (first, others)))

pub runs_soundly : (programs : List Program) (devices : Devices) (schedule : List ℕ) (fuel : ℕ)
    → AllByRecursion (λ program. HasShapesOfCells (start_of program).store devices) programs → ∥ RunsSoundly fuel schedule (world_in programs devices) ∥₁
runs_soundly programs devices schedule fuel fits =
    ∥∥₁_map (sound_starts programs devices fits)
    (λ all. sound_run fuel schedule (world_in programs devices)
    (λ task configuration there. all_at (λ c. IsSoundState (state_of devices c)) (map start_of programs) task configuration all there))
