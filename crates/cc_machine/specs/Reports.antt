-- What the report of a run says.
use Rattle.std.specs.Prelude.{◌≡◌, ◌≢◌, ℕ, List, [], map, Some}
use Rattle.cc_base.specs.declared.literal.Op.{Op}
use Rattle.cc_base.specs.Literals.{Literal}
use Rattle.cc_core.specs.Stores.{DeviceCell}
use Rattle.cc_core.specs.Typing.{base_operated}
use Rattle.cc_device.specs.Devices.{Devices}
use Rattle.cc_device.specs.Endings.{End, Done, OutOfFuel}
use Rattle.cc_device.specs.Events.{Event, Operated, IsWellScoped}
use Rattle.cc_device.specs.DeviceViews.{event_of, end_of}
use Rattle.cc_machine.specs.declared.runs.RunReport.{RunReport}
use Rattle.cc_machine.specs.Standing.{StandsFor, with_devices}
use Rattle.cc_runs.specs.Answers.{shown}
use Rattle.cc_runs.specs.Machine.{Configuration, Final, step}
use Rattle.cc_runs.specs.Reach.{SetReaches, captured_set}
use Rattle.cc_runs.specs.RunLaws.{StillGoesOn}
use Rattle.cc_runs.specs.Runs.{Ends, run}
use Rattle.cc_runs.specs.Soundness.{IsSound}
use Rattle.cc_runs.specs.SafeRuns.{scopes_of, IsAmong}

-- the end of what takes no further step: with what is shown at a final configuration, and out of fuel at any other
abbrev pub HasEnd : Configuration → End → Type 0
HasEnd held (Done shows) = (step held ≡ Final) × (shown held ≡ Some shows)
HasEnd held OutOfFuel = step held ≢ Final

-- the events of the report, in order
abbrev pub events_of : RunReport → List Event
events_of report = map event_of report.trace.items

-- Each configuration that the first one stands for has the run that is reported: its events, its end and the number of
-- its steps. The second one stands for its last configuration, and the devices are those at its end.
pub record IsRunOf (held : Configuration) (devices : Devices) (fuel : ℕ) (report : RunReport) (held' : Configuration)
    (devices' : Devices) (configuration : Configuration) : Type 0 where
  pub events : (run fuel (with_devices configuration devices)).events ≡ events_of report
  pub ending : (run fuel (with_devices configuration devices)).ending ≡ Ends (end_of report.end)
  pub steps : (run fuel (with_devices configuration devices)).steps ≡ report.steps
  pub last : StandsFor held' (run fuel (with_devices configuration devices)).last.configuration
  pub last_devices : (run fuel (with_devices configuration devices)).last.devices ≡ devices'

-- the report is of the run of each of them
abbrev pub ReportsRuns : Configuration → Devices → ℕ → RunReport → Configuration → Devices → Type 0
ReportsRuns held devices fuel report held' devices' =
    (configuration : Configuration) → StandsFor held configuration
    → IsRunOf held devices fuel report held' devices' configuration

-- The end is out of fuel exactly where they still go on after so many steps.
abbrev pub TellsFuel : Configuration → Devices → ℕ → End → Type 0
TellsFuel held devices fuel end =
    (configuration : Configuration) → StandsFor held configuration
    → (end ≡ OutOfFuel → StillGoesOn fuel (with_devices configuration devices))
    × (StillGoesOn fuel (with_devices configuration devices) → end ≡ OutOfFuel)

-- Each device that is operated is reached by what they capture, where they are sound.
abbrev pub OperatesWhatIsReached : Configuration → List Event → Type 0
OperatesWhatIsReached held events =
    (configuration : Configuration) → StandsFor held configuration → IsSound configuration
    → (device : ℕ) (operation : Op) (literal : Literal) → IsAmong (Operated device operation literal) events
    → SetReaches configuration.store (captured_set configuration) (DeviceCell device (base_operated operation))

-- The events are well scoped, where they are sound and no boundary stands at the start.
abbrev pub IsWellScopedFrom : Configuration → List Event → Type 0
IsWellScopedFrom held events =
    (configuration : Configuration) → StandsFor held configuration → IsSound configuration
    → scopes_of configuration.stack ≡ [] → IsWellScoped events
