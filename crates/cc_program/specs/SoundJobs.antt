-- What holds of the files of every job, at every moment of it, whether a command asks for it or not; and that what is
-- shown of runs is shown of runs of which it holds.
use Rattle.std.specs.Prelude.{◌≡◌, ℕ, List, ◌++◌, map, Ok}
use Rattle.cc_base.specs.declared.device.DeviceDecl.{DeviceDecl}
use Rattle.cc_device.specs.Declarations.{declared_devices}
use Rattle.cc_device.specs.Events.{Event}
use Rattle.cc_job.specs.declared.job.Command.{Command}
use Rattle.cc_job.specs.declared.job.Job.{Job}
use Rattle.cc_job.specs.Jobs.{IsJob}
use Rattle.cc_entry_laws.specs.PresentEntries.{CheckedEntry, program_entry, started_in, IsEntryOf}
use Rattle.cc_entry_laws.specs.PresentFiles.{AreSoundFiles}
use Rattle.cc_verdicts.specs.ModuleLaws.{NamesOfDevicesDiffer}
use Rattle.cc_verdicts.specs.ModuleVerdicts.{CheckedDefinition, ModuleVerdict}
use Rattle.cc_verdicts.specs.PresentTexts.{Texts, ArePresent, AreVerdicts}
use Rattle.cc_runs.specs.Interleavings.{Report, state_of, interleaved_run}
use Rattle.cc_runs.specs.SafeRuns.{RunsSafely}
use Rattle.cc_runs.specs.Links.{program_start}
use Rattle.cc_runs.specs.Runs.{Run, Ending, run}
use Rattle.cc_runs.specs.SafeTasks.{RunsInterleaved}
use Rattle.cc_replies.specs.Outputs.{after_all}
use Rattle.cc_replies.specs.Replies.{Replies}
use Rattle.cc_replies.specs.ReplyTexts.{Ran, TasksRan}
use Rattle.cc_replies.specs.Requests.{JobState, RunDefinition, RunTasks, Ask, no_module}
use Rattle.cc_replies.specs.RunReplies.{HasEntry, HaveEntries}
use Rattle.cc_answers.specs.Requests.{request_of}

-- Each definition of the files that a run would not refuse has an entry, and one alone.
abbrev pub HaveOneEntry : List DeviceDecl → Texts → Type 0
HaveOneEntry devices texts =
    (verdicts : List ℕ → ModuleVerdict) → AreVerdicts devices texts verdicts
    → (module_name name : List ℕ) (started : CheckedDefinition)
    → started_in texts verdicts module_name name ≡ Ok started
    → (entry : CheckedEntry) × IsEntryOf devices texts verdicts module_name name started entry
    × ((other : CheckedEntry) → IsEntryOf devices texts verdicts module_name name started other → other ≡ entry)

-- The files of the job are sound at every moment: before its first command, behind each, and at its end. And of each
-- definition that may be run then there is the entry whose runs are safe.
abbrev pub IsSoundJob : Job → Type 0
IsSoundJob job =
    (before others : List Command) → job.commands ≡ before ++ others
    → AreSoundFiles job.devices (after_all no_module (map request_of before)).texts
    × HaveOneEntry job.devices (after_all no_module (map request_of before)).texts

-- Every job is sound so.
abbrev pub EveryJobIsSound : Type 0
EveryJobIsSound = (bytes : List ℕ) (job : Job) → IsJob bytes job → IsSoundJob job

-- A reply names the definition that is asked for.
abbrev pub NamesDefinition : List ℕ → List ℕ → List ℕ → List ℕ → Type 0
NamesDefinition owner definition module_name name = (owner ≡ module_name) × (definition ≡ name)

-- What is shown of a run of the definition of these names is that of its entry's program on the declared devices, with
-- the entry's authority.
pub record IsShownRun (devices : List DeviceDecl) (texts : Texts) (module_name name : List ℕ) (fuel : ℕ)
    (authority : List ℕ) (events : List Event) (ending : Ending) (steps : ℕ) : Type 0 where
  -- the present modules have these verdicts
  pub verdicts : List ℕ → ModuleVerdict
  pub are : AreVerdicts devices texts verdicts
  -- by which this is the entry of the definition
  pub entry : CheckedEntry
  pub of_definition : HasEntry devices texts verdicts (module_name, name) entry
  -- what is shown is its authority, and the run of its program
  pub of_entry : authority ≡ entry.authority
  pub told : Run
  pub is_run : told ≡ run fuel (state_of (declared_devices devices) (program_start (program_entry entry)))
  pub has_events : events ≡ told.events
  pub has_ending : ending ≡ told.ending
  pub has_steps : steps ≡ told.steps
  -- which runs safely
  pub safe : RunsSafely authority (state_of (declared_devices devices) (program_start (program_entry entry))) fuel

-- What is shown of tasks is that of the interleaved run of the programs of the definitions' entries, one for each in
-- order, on the declared devices, with the entries' authorities.
pub record AreShownTasks (devices : List DeviceDecl) (texts : Texts) (fuel : ℕ) (schedule : List ℕ)
    (tasks : List (List ℕ × List ℕ)) (authorities : List (List ℕ)) (report : Report) : Type 0 where
  -- the present modules have these verdicts
  pub verdicts : List ℕ → ModuleVerdict
  pub are : AreVerdicts devices texts verdicts
  -- by which these are the entries of the definitions
  pub entries : List CheckedEntry
  pub of_definitions : HaveEntries devices texts verdicts tasks entries
  -- what is shown are their authorities, and the interleaved run of their programs
  pub of_entries : authorities ≡ map (λ entry. entry.authority) entries
  pub is_report : report ≡ interleaved_run fuel schedule (map program_entry entries) (declared_devices devices)
  -- which run safely together
  pub safe : RunsInterleaved (map program_entry entries) (declared_devices devices) schedule fuel

-- Each reply that tells of a run shows one of which that holds, of the definition that is asked for.
abbrev pub ShownRunsAreSafe : Type 0
ShownRunsAreSafe =
    (devices : List DeviceDecl) (state : JobState) → NamesOfDevicesDiffer devices → ArePresent state.texts
    → (module_name name owner definition : List ℕ) (fuel : ℕ) (authority : List ℕ) (events : List Event)
    (ending : Ending) (steps : ℕ)
    → Replies devices state (Ask (RunDefinition module_name name fuel))
    (Ran owner definition authority events ending steps)
    → NamesDefinition owner definition module_name name
    × IsShownRun devices state.texts module_name name fuel authority events ending steps

-- And so does each that tells of tasks.
abbrev pub ShownTasksAreSafe : Type 0
ShownTasksAreSafe =
    (devices : List DeviceDecl) (state : JobState) → NamesOfDevicesDiffer devices → ArePresent state.texts
    → (fuel : ℕ) (schedule : List ℕ) (tasks : List (List ℕ × List ℕ)) (authorities : List (List ℕ)) (report : Report)
    → Replies devices state (Ask (RunTasks fuel schedule tasks)) (TasksRan authorities report)
    → AreShownTasks devices state.texts fuel schedule tasks authorities report
