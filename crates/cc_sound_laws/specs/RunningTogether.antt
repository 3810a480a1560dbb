-- Programs of typed modules run together: their tasks take turns, whoever is next, for as long as they go on. A run of
-- one program alone is that of a list of one.
use Rattle.std.specs.Prelude.{◌≡◌, ◌≢◌, ℕ, List, [], ◌∷◌, Some, slice_get}
use Rattle.cc_base.specs.declared.literal.Op.{Op}
use Rattle.cc_base.specs.Literals.{Literal}
use Rattle.cc_core.specs.Typing.{base_operated}
use Rattle.cc_core.specs.Stores.{DeviceCell}
use Rattle.cc_core.specs.Programs.{Entry}
use Rattle.cc_device.specs.Devices.{DeviceState, Devices}
use Rattle.cc_device.specs.Events.{Operated, Exited, FollowsAll}
use Rattle.cc_runs.specs.Machine.{Configuration}
use Rattle.cc_runs.specs.Reach.{SetReaches, captured_set}
use Rattle.cc_runs.specs.Runs.{State, IsStuck, Moves}
use Rattle.cc_runs.specs.SafeRuns.{scopes_of, IsListed, IsAmong}
use Rattle.cc_runs.specs.Interleavings.{World, world_of, move_of, Turn, trace_of, all_events, own_events, Takes}
use Rattle.cc_runs.specs.Interleavings.{events_on, History}
use Rattle.cc_runs.specs.SafeTasks.{HasItsDevicesAlone}
use Rattle.cc_runs.specs.TaskLaws.{AreEntries}

-- What holds of the task of an entry at a moment, to which turns have led.
pub record GoesWell (entries : List Entry) (devices : Devices) (task : ℕ) (entry : Entry) (turns : List Turn)
    (now : World) : Type 0 where
  pub configuration : Configuration
  pub there : slice_get now.tasks task ≡ Some configuration
  -- it is not stuck
  pub not_stuck : move_of now task ≢ Some IsStuck
  -- each device that it operates then or later is reached by what it captures then, and is of the entry's authority
  pub operates : (later : World) (further : List Turn) → Takes now further later
      → (device : ℕ) (operation : Op) (literal : Literal)
      → IsAmong (Operated device operation literal) (own_events task (trace_of further))
      → SetReaches configuration.store (captured_set configuration) (DeviceCell device (base_operated operation))
      × IsListed device entry.authority
  -- an exit finds its scope among those that stand
  pub exits : (label : ℕ) (next : State) → move_of now task ≡ Some (Moves (Some (Exited label)) next)
      → IsListed label (scopes_of configuration.stack)
  -- its events so far are well scoped, and have led to those
  pub scoped : FollowsAll [] (own_events task (trace_of turns)) (scopes_of configuration.stack)
  -- where no other entry has a device of its authority, turns of its own alone lead there, with the same events
  pub alone : HasItsDevicesAlone entries task entry
      → (last : World) × (own : List Turn) × Takes (world_of (entry ∷ []) devices) own last
      × (own_events 0 (trace_of own) ≡ own_events task (trace_of turns))
      × (slice_get last.tasks 0 ≡ Some configuration)

-- What holds of programs of entries that run together on devices, behind any turns: each task goes well, and the events
-- on each device are a history of that device alone.
pub record RunTogether (entries : List Entry) (devices : Devices) : Type 0 where
  pub tasks : (turns : List Turn) (now : World) → Takes (world_of entries devices) turns now
      → (task : ℕ) (entry : Entry) → slice_get entries task ≡ Some entry → GoesWell entries devices task entry turns now
  pub histories : (turns : List Turn) (now : World) → Takes (world_of entries devices) turns now
      → (number : ℕ) (device : DeviceState) → slice_get devices number ≡ Some device
      → (last : DeviceState) × (slice_get now.devices number ≡ Some last)
      × History number device (events_on number (all_events (trace_of turns))) last

-- The programs of entries of typed modules run together so, on all devices of their shapes.
abbrev pub ProgramsRunTogether : Type 0
ProgramsRunTogether =
    (entries : List Entry) (devices : Devices) → AreEntries entries devices → RunTogether entries devices
