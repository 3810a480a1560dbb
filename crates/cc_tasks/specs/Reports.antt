-- What the report of an interleaved run tells, in the words of the definitions.
use Rattle.std.specs.Prelude.{◌≡◌, ℕ, List, map}
use Rattle.cc_core.specs.Programs.{Entry}
use Rattle.cc_device.specs.Devices.{Devices}
use Rattle.cc_device.specs.Events.{Event}
use Rattle.cc_device.specs.declared.ends.End.{End}
use Rattle.cc_device.specs.declared.events.Event.{Event as DeclaredEvent}
use Rattle.cc_device.specs.DeviceViews.{end_of, event_of}
use Rattle.cc_runs.specs.Interleavings.{World, Report, interleaved_run}
use Rattle.cc_runs.specs.Links.{program_start}
use Rattle.cc_runs.specs.Runs.{Ending, Ends}
use Rattle.cc_runs.specs.TaskLaws.{AreEntries}
use Rattle.cc_runs.specs.SafeTasks.{RunsInterleaved}
use Rattle.cc_machine.specs.declared.program.Program.{Program}
use Rattle.cc_machine.specs.Programs.{start_of}
use Rattle.cc_tasks.specs.declared.tasks.TaskReport.{TaskReport}

-- the programs at their starts, as tasks on the devices
abbrev pub world_in : List Program → Devices → World
world_in programs devices = record { tasks = map start_of programs; devices = devices }

-- an event with the number of its task
abbrev pub told_event : ℕ × DeclaredEvent → ℕ × Event
told_event told = (told.0, event_of told.1)

-- the end of a task, and how many steps it took
abbrev pub told_end : End × ℕ → Ending × ℕ
told_end told = (Ends (end_of told.0), told.1)

-- what the report tells
abbrev pub told_by : TaskReport → Report
told_by report = record { trace = map told_event report.trace.items; ends = map told_end report.ends.items }

-- the programs start as those of the entries do
abbrev pub ArePrograms : List Entry → List Program → Type 0
ArePrograms entries programs = map program_start entries ≡ map start_of programs

-- Where the programs are those of entries, and the devices are of their shapes, this is the report of the entries'
-- interleaved run, and that run keeps all that interleaved runs of entries do.
abbrev pub RunsEntries : List Program → Devices → List ℕ → ℕ → Report → Type 0
RunsEntries programs devices schedule fuel told =
    (entries : List Entry) → ArePrograms entries programs → AreEntries entries devices
    → (told ≡ interleaved_run fuel schedule entries devices) × RunsInterleaved entries devices schedule fuel
