-- A run of one program is turns of a list of one.
use Rattle.std.specs.Prelude.{◌≡◌, List, [], ◌∷◌}
use Rattle.cc_core.specs.Programs.{Entry}
use Rattle.cc_device.specs.Devices.{Devices}
use Rattle.cc_device.specs.Events.{Event}
use Rattle.cc_runs.specs.Runs.{State, Leads}
use Rattle.cc_runs.specs.Links.{program_start}
use Rattle.cc_runs.specs.Interleavings.{World, world_of, state_of, Turn, trace_of, own_events, Takes}

-- one task, at a state
abbrev pub alone_at : State → World
alone_at state = record { tasks = state.configuration ∷ []; devices = state.devices }

-- Steps of a run of the entry's program are turns of its task alone, with the same events.
abbrev pub SingleRunsAreTurns : Type 0
SingleRunsAreTurns =
    (entry : Entry) (devices : Devices) (events : List Event) (last : State)
    → Leads (state_of devices (program_start entry)) events last
    → (turns : List Turn) × Takes (world_of (entry ∷ []) devices) turns (alone_at last)
    × (own_events 0 (trace_of turns) ≡ events)
