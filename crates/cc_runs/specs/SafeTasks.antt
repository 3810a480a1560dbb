-- What holds of an interleaved run of the programs of entries: of each task at each moment, and of the whole run.
use Rattle.std.specs.Prelude.{◌≡◌, ◌≢◌, ◌⊎◌, ℕ, List, length, Some, slice_get}
use Rattle.cc_base.specs.declared.literal.Op.{Op}
use Rattle.cc_base.specs.Literals.{Literal}
use Rattle.cc_core.specs.Typing.{base_operated}
use Rattle.cc_core.specs.Stores.{DeviceCell}
use Rattle.cc_core.specs.Programs.{Entry}
use Rattle.cc_device.specs.Devices.{DeviceState, Devices}
use Rattle.cc_device.specs.Events.{Operated, Exited, IsWellScoped}
use Rattle.cc_runs.specs.Machine.{Configuration}
use Rattle.cc_runs.specs.Reach.{SetReaches, captured_set}
use Rattle.cc_runs.specs.Runs.{State, IsStuck, Moves, Ending, IsStopped, run}
use Rattle.cc_runs.specs.SafeRuns.{scopes_of, IsListed, IsAmong}
use Rattle.cc_runs.specs.Links.{program_start}
use Rattle.cc_runs.specs.Interleavings.{World, world_of, state_of, move_of, Turn, interleave, trace_of, all_events}
use Rattle.cc_runs.specs.Interleavings.{own_events, Report, interleaved_run, Takes, IsAtRest, events_on, History}

-- What holds of a task at a moment of an interleaved run, where it has leave to use some devices. It is not stuck.
-- Each device that it operates then or later is reached by what it captures at that moment, and is one of those. An
-- exit finds its scope among those of the task that stand.
pub record IsSafeTask (permitted : List ℕ) (task : ℕ) (now : World) (configuration : Configuration) : Type 0 where
  pub not_stuck : move_of now task ≢ Some IsStuck
  pub reached : (later : World) (turns : List Turn) → Takes now turns later
      → (device : ℕ) (operation : Op) (literal : Literal)
      → IsAmong (Operated device operation literal) (own_events task (trace_of turns))
      → SetReaches configuration.store (captured_set configuration) (DeviceCell device (base_operated operation))
  pub permits : (later : World) (turns : List Turn) → Takes now turns later
      → (device : ℕ) (operation : Op) (literal : Literal)
      → IsAmong (Operated device operation literal) (own_events task (trace_of turns))
      → IsListed device permitted
  pub exits : (label : ℕ) (next : State) → move_of now task ≡ Some (Moves (Some (Exited label)) next)
      → IsListed label (scopes_of configuration.stack)

-- What holds of the task of an entry in an interleaved run. It does not stop before its end. It is safe at each
-- moment, it operates no device outside the entry's authority, and its own events are well scoped.
pub record TaskRunsSafely (entries : List Entry) (devices : Devices) (schedule : List ℕ) (fuel task : ℕ) (entry : Entry)
    : Type 0 where
  pub ending : Ending
  pub steps : ℕ
  pub told : slice_get (interleaved_run fuel schedule entries devices).ends task ≡ Some (ending, steps)
  pub not_stopped : ending ≢ IsStopped
  pub moments : (now : World) (turns : List Turn) (configuration : Configuration)
      → Takes (world_of entries devices) turns now → slice_get now.tasks task ≡ Some configuration
      → IsSafeTask entry.authority task now configuration
  pub authority : (device : ℕ) (operation : Op) (literal : Literal)
      → IsAmong (Operated device operation literal)
      (own_events task (interleaved_run fuel schedule entries devices).trace)
      → IsListed device entry.authority
  pub well_scoped : IsWellScoped (own_events task (interleaved_run fuel schedule entries devices).trace)

-- no other task may operate a device that this one may
abbrev pub HasItsDevicesAlone : List Entry → ℕ → Entry → Type 0
HasItsDevicesAlone entries task entry =
    (other : ℕ) (entry' : Entry) → other ≢ task → slice_get entries other ≡ Some entry'
    → (device : ℕ) → IsListed device entry.authority → IsListed device entry'.authority → ⊥

-- The run of the entry alone, from the same devices and with the task's own number of steps for fuel, has the events
-- and the end of the task, and takes as many steps.
pub record TaskRunsAsAlone (report : Report) (devices : Devices) (task : ℕ) (entry : Entry) : Type 0 where
  pub steps : ℕ
  pub events : (run steps (state_of devices (program_start entry))).events ≡ own_events task report.trace
  pub told : slice_get report.ends task ≡ Some ((run steps (state_of devices (program_start entry))).ending, steps)
  pub all_steps : (run steps (state_of devices (program_start entry))).steps ≡ steps

-- What holds of the interleaved run of the programs of entries. All its turns are taken, or each task of the schedule
-- has come to its end. The task of each entry runs safely. The events of each device are a history of that device
-- alone, from its state at the start. A task that has its devices alone runs as it does alone.
pub record RunsInterleaved (entries : List Entry) (devices : Devices) (schedule : List ℕ) (fuel : ℕ) : Type 0 where
  pub goes_on : (length (interleave fuel schedule (world_of entries devices)).turns ≡ fuel)
      ⊎ ((task : ℕ) → IsListed task schedule
      → IsAtRest (move_of (interleave fuel schedule (world_of entries devices)).last task))
  pub tasks : (task : ℕ) (entry : Entry) → slice_get entries task ≡ Some entry
      → TaskRunsSafely entries devices schedule fuel task entry
  pub histories : (number : ℕ) (device : DeviceState) → slice_get devices number ≡ Some device
      → (last : DeviceState)
      × (slice_get (interleave fuel schedule (world_of entries devices)).last.devices number ≡ Some last)
      × History number device (events_on number (all_events (interleaved_run fuel schedule entries devices).trace)) last
  pub alone : (task : ℕ) (entry : Entry) → slice_get entries task ≡ Some entry → HasItsDevicesAlone entries task entry
      → TaskRunsAsAlone (interleaved_run fuel schedule entries devices) devices task entry
