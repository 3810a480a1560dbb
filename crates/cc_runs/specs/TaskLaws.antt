-- Programs of entries that run interleaved.
use Rattle.std.specs.Prelude.{◌≡◌, ℕ, List, slice_get}
use Rattle.std.specs.List.{AllByRecursion}
use Rattle.std.specs.Option.{option_map}
use Rattle.cc_core.specs.Programs.{Entry, IsEntry}
use Rattle.cc_device.specs.Devices.{Devices}
use Rattle.cc_runs.specs.Machine.{Configuration}
use Rattle.cc_runs.specs.SafeRuns.{HaveShapes}
use Rattle.cc_runs.specs.Interleavings.{Turn, own_steps, ending_in, ends_from}
use Rattle.cc_runs.specs.SafeTasks.{RunsInterleaved}

-- what an entry has, of each, and devices of the shapes of each
abbrev pub AreEntries : List Entry → Devices → Type 0
AreEntries entries devices = AllByRecursion (λ entry. IsEntry entry × HaveShapes devices entry.devices) entries

-- The report tells of each task its end and how many steps it took.
abbrev pub EndsAreOfTheirTasks : Type 0
EndsAreOfTheirTasks =
    (turns : List Turn) (devices : Devices) (tasks : List Configuration) (task : ℕ)
    → slice_get (ends_from 0 turns devices tasks) task
    ≡ option_map (λ configuration. (ending_in devices configuration, own_steps task turns)) (slice_get tasks task)

-- The programs of entries run interleaved as they should, on all devices of their shapes, by every schedule and with
-- any fuel.
abbrev pub EntriesRunInterleaved : Type 0
EntriesRunInterleaved =
    (entries : List Entry) (devices : Devices) → AreEntries entries devices
    → (schedule : List ℕ) (fuel : ℕ) → RunsInterleaved entries devices schedule fuel
