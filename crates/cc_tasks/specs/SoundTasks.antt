-- What the interleaved run of sound tasks keeps.
use Rattle.std.specs.Prelude.{◌≡◌, ◌⊎◌, ℕ, List, length, Some, slice_get}
use Rattle.cc_device.specs.Devices.{DeviceState}
use Rattle.cc_runs.specs.InterleavingLaws.{KeepsItsPromises, IsApart, RunsAsAlone}
use Rattle.cc_runs.specs.Interleavings.{World, move_of, interleave, trace_of, all_events, IsAtRest, events_on}
use Rattle.cc_runs.specs.Interleavings.{History}
use Rattle.cc_runs.specs.Machine.{Configuration}
use Rattle.cc_runs.specs.SafeRuns.{IsListed}

-- All turns are taken, or each task of the schedule has come to its end. Each task keeps what a run alone keeps. The
-- events of each device are a history of that device alone, from its state at the start. A task whose devices no other
-- task reaches runs as it does alone.
pub record RunsSoundly (fuel : ℕ) (schedule : List ℕ) (world : World) : Type 0 where
  pub goes_on : (length (interleave fuel schedule world).turns ≡ fuel)
      ⊎ ((task : ℕ) → IsListed task schedule → IsAtRest (move_of (interleave fuel schedule world).last task))
  pub promises : (task : ℕ) (configuration : Configuration) → slice_get world.tasks task ≡ Some configuration
      → KeepsItsPromises task configuration (interleave fuel schedule world).turns
      (interleave fuel schedule world).last
  pub histories : (number : ℕ) (device : DeviceState) → slice_get world.devices number ≡ Some device
      → (last : DeviceState) × (slice_get (interleave fuel schedule world).last.devices number ≡ Some last)
      × History number device (events_on number (all_events (trace_of (interleave fuel schedule world).turns))) last
  pub alone : (task : ℕ) (configuration : Configuration) → slice_get world.tasks task ≡ Some configuration
      → IsApart world task configuration
      → RunsAsAlone task configuration world.devices (interleave fuel schedule world).turns
      (interleave fuel schedule world).last
