-- The configurations that a machine stands for: those that are one with what it holds but for types and shapes that are
-- written.
use Rattle.std.specs.Prelude.{◌≡◌, ℕ, Option, slice_get}
use Rattle.std.specs.Option.{option_map}
use Rattle.cc_device.specs.Devices.{base_of_device, Devices}
use Rattle.cc_device.specs.Events.{Event}
use Rattle.cc_runs.specs.Alike.{erased_configuration}
use Rattle.cc_runs.specs.Machine.{Configuration}
use Rattle.cc_runs.specs.Runs.{State, Moves, move}
use Rattle.cc_runs.specs.Soundness.{IsSound}
use Rattle.cc_runs.specs.SoundRuns.{IsKeptSound}

-- the configuration is one of those
abbrev pub StandsFor : Configuration → Configuration → Type 0
StandsFor held configuration = erased_configuration configuration ≡ held

-- one of them is sound
abbrev pub StandsSoundly : Configuration → Type 0
StandsSoundly held = (configuration : Configuration) × IsSound configuration × StandsFor held configuration

-- the configuration with the devices
abbrev pub with_devices : Configuration → Devices → State
with_devices configuration devices = record { configuration = configuration; devices = devices }

-- Each configuration that the first one stands for moves, with the event and to the devices, to one that the second
-- stands for. Where it is sound, all is kept that moves of sound states keep.
pub record StepsAlike (held : Configuration) (devices : Devices) (event : Option Event) (held' : Configuration)
    (devices' : Devices) : Type 0 where
  pub moves : (configuration : Configuration) → StandsFor held configuration
      → (next : Configuration)
      × (move (with_devices configuration devices) ≡ Moves event (with_devices next devices'))
      × StandsFor held' next
  pub keeps : (configuration next : Configuration) → StandsFor held configuration → IsSound configuration
      → move (with_devices configuration devices) ≡ Moves event (with_devices next devices')
      → IsKeptSound (with_devices configuration devices) event (with_devices next devices')

-- each device keeps its shape
abbrev pub KeepsShapes : Devices → Devices → Type 0
KeepsShapes before after =
    (number : ℕ)
    → option_map base_of_device (slice_get after number) ≡ option_map base_of_device (slice_get before number)
