-- What is answered where a definition is to be run, or several are, interleaved.
use Rattle.std.specs.Prelude.{◌≡◌, ℕ, List, [], ◌∷◌, map, Option, Some, None, Result, Ok, Err}
use Rattle.cc_base.specs.declared.code.Code.{Code}
use Rattle.cc_base.specs.declared.device.DeviceDecl.{DeviceDecl}
use Rattle.cc_device.specs.Declarations.{declared_devices}
use Rattle.cc_entry_laws.specs.PresentEntries.{CheckedEntry, program_entry, started_in, IsEntryOf}
use Rattle.cc_verdicts.specs.ModuleVerdicts.{CheckedDefinition, ModuleVerdict}
use Rattle.cc_verdicts.specs.PresentTexts.{Texts}
use Rattle.cc_runs.specs.Interleavings.{state_of, interleaved_run}
use Rattle.cc_runs.specs.Links.{program_start}
use Rattle.cc_runs.specs.Runs.{Run, run}
use Rattle.cc_replies.specs.ReplyTexts.{Reply, Ran, RunRefused, TasksRan, TasksRefused}

-- What is answered about a definition that is to be started: what is told of its entry, where there is this one to be
-- started, or the refusal, by why there is none.
abbrev pub IsEntryAnswer : List DeviceDecl → Texts → (List ℕ → ModuleVerdict) → List ℕ → List ℕ
    → (CheckedEntry → Reply) → (Code → Reply) → Result CheckedDefinition Code → Reply → Type 0
IsEntryAnswer devices texts verdicts module_name name told refused (Ok started) reply =
    (entry : CheckedEntry) × IsEntryOf devices texts verdicts module_name name started entry × (reply ≡ told entry)
IsEntryAnswer devices texts verdicts module_name name told refused (Err code) reply = reply ≡ refused code

-- the run of an entry's program on the declared devices
abbrev pub declared_run : List DeviceDecl → ℕ → CheckedEntry → Run
declared_run devices fuel entry =
    run fuel (state_of (declared_devices devices) (program_start (program_entry entry)))

-- what is told of a run: the authority of its entry, its events, its end and its steps
abbrev pub run_told : List ℕ → List ℕ → List ℕ → Run → Reply
run_told module_name name authority it = Ran module_name name authority it.events it.ending it.steps

-- A run of a definition, where there is this one to be started, or why there is none.
abbrev pub IsRunAnswer : List DeviceDecl → Texts → (List ℕ → ModuleVerdict) → List ℕ → List ℕ → ℕ
    → Result CheckedDefinition Code → Reply → Type 0
IsRunAnswer devices texts verdicts module_name name fuel =
    IsEntryAnswer devices texts verdicts module_name name
    (λ entry. run_told module_name name entry.authority (declared_run devices fuel entry)) (RunRefused module_name name)

-- a definition that is not to be run, by its names, with the reason
pub record Unstarted : Type 0 where
  pub module_name : List ℕ
  pub name : List ℕ
  pub code : Code

-- the definition, if there is a reason, or else the one among the others
abbrev pub unstarted_or : List ℕ → List ℕ → Result CheckedDefinition Code → Option Unstarted → Option Unstarted
unstarted_or module_name name (Ok started) others = others
unstarted_or module_name name (Err code) others =
    Some (record { module_name = module_name; name = name; code = code })

-- the first of the definitions that is not to be run, if there is one
abbrev pub first_unstarted : Texts → (List ℕ → ModuleVerdict) → List (List ℕ × List ℕ) → Option Unstarted
first_unstarted texts verdicts [] = None
first_unstarted texts verdicts (first ∷ others) =
    unstarted_or first.0 first.1 (started_in texts verdicts first.0 first.1) (first_unstarted texts verdicts others)

-- the entry is that of the definition of these names
abbrev pub HasEntry : List DeviceDecl → Texts → (List ℕ → ModuleVerdict) → List ℕ × List ℕ → CheckedEntry → Type 0
HasEntry devices texts verdicts names entry =
    (started : CheckedDefinition) × (started_in texts verdicts names.0 names.1 ≡ Ok started)
    × IsEntryOf devices texts verdicts names.0 names.1 started entry

-- the entries are those of the definitions, one for each, in order
abbrev pub HaveEntries : List DeviceDecl → Texts → (List ℕ → ModuleVerdict) → List (List ℕ × List ℕ)
    → List CheckedEntry → Type 0
HaveEntries devices texts verdicts [] entries = entries ≡ []
HaveEntries devices texts verdicts (first ∷ others) entries =
    (entry : CheckedEntry) × (later : List CheckedEntry) × HasEntry devices texts verdicts first entry
    × HaveEntries devices texts verdicts others later × (entries ≡ entry ∷ later)

-- what is told of the interleaved run of the programs of entries on the declared devices
abbrev pub tasks_told : List DeviceDecl → ℕ → List ℕ → List CheckedEntry → Reply
tasks_told devices fuel schedule entries =
    TasksRan (map (λ entry. entry.authority) entries)
    (interleaved_run fuel schedule (map program_entry entries) (declared_devices devices))

-- The interleaved run of definitions, where each is to be started, or the first that is not.
abbrev pub IsTasksAnswer : List DeviceDecl → Texts → (List ℕ → ModuleVerdict) → ℕ → List ℕ → List (List ℕ × List ℕ)
    → Option Unstarted → Reply → Type 0
IsTasksAnswer devices texts verdicts fuel schedule tasks (Some first) reply =
    reply ≡ TasksRefused first.code first.module_name first.name
IsTasksAnswer devices texts verdicts fuel schedule tasks None reply =
    (entries : List CheckedEntry) × HaveEntries devices texts verdicts tasks entries
    × (reply ≡ tasks_told devices fuel schedule entries)
