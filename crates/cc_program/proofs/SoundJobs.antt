-- The files of jobs are sound, and what is told of runs is shown of safe ones.
use Rattle.std.proofs.Common.{◌≡◌, ℕ, List, [], ◌∷◌, ◌++◌, map, Ok, refl, sym, subst}
use Rattle.std.specs.List.{AllByRecursion}
use Rattle.cc_base.specs.declared.device.DeviceDecl.{DeviceDecl}
use Rattle.cc_device.specs.Declarations.{declared_devices}
use Rattle.cc_entry_laws.specs.PresentEntries.{CheckedEntry, program_entry, started_in, IsEntryOf}
use Rattle.cc_entry_laws.specs.PresentFiles.{IsPresentEntry, AreSoundFiles}
use Rattle.cc_entry_laws.proofs.MadeEntries.{entries_exist}
use Rattle.cc_entry_laws.proofs.OneEntry.{one_entry}
use Rattle.cc_entry_laws.proofs.SoundFiles.{present_files_are_sound}
use Rattle.cc_verdicts.specs.ModuleLaws.{NamesOfDevicesDiffer}
use Rattle.cc_verdicts.specs.ModuleVerdicts.{ModuleVerdict}
use Rattle.cc_verdicts.specs.PresentTexts.{Texts, ArePresent, AreVerdicts}
use Rattle.cc_runs.specs.Interleavings.{interleaved_run}
use Rattle.cc_replies.specs.Outputs.{after_all}
use Rattle.cc_replies.specs.Replies.{after}
use Rattle.cc_replies.specs.Requests.{Request, JobState, no_module}
use Rattle.cc_replies.specs.RunReplies.{declared_run, HasEntry, HaveEntries}
use Rattle.cc_replies.proofs.PresentAfter.{texts_stay_present}
use Rattle.cc_answers.specs.Requests.{request_of}
use Rattle.cc_program.specs.SoundJobs.{HaveOneEntry, EveryJobIsSound, IsShownRun, AreShownTasks}
use Rattle.cc_answers.proofs.Answering.{none_present}

pub stay_present : (state : JobState) (requests : List Request) → ArePresent state.texts → ArePresent (after_all state requests).texts
stay_present state [] sorted = sorted
stay_present state (first ∷ others) sorted = stay_present (after state first) others (texts_stay_present state first sorted)

-- each definition that may be run has one entry
have_one_entry : (devices : List DeviceDecl) (texts : Texts) → NamesOfDevicesDiffer devices → ArePresent texts → HaveOneEntry devices texts
have_one_entry devices texts differ sorted verdicts are module_name name started starts =
    let (entry, entered) = entries_exist devices texts verdicts differ sorted are module_name name started starts in
    (entry, entered, λ other also. one_entry devices texts verdicts module_name name started other entry also entered)

pub every_job_is_sound : EveryJobIsSound
every_job_is_sound bytes job is before others parts =
    let sorted = stay_present no_module (map request_of before) none_present in
    let texts = (after_all no_module (map request_of before)).texts in
    (present_files_are_sound job.devices texts is.names sorted, have_one_entry job.devices texts is.names sorted)

-- an entry of a definition is one of the present files
pub as_present : (devices : List DeviceDecl) (texts : Texts) (verdicts : List ℕ → ModuleVerdict) → AreVerdicts devices texts verdicts
    → (module_name name : List ℕ) (entry : CheckedEntry) → HasEntry devices texts verdicts (module_name, name) entry
    → IsPresentEntry devices texts entry
as_present devices texts verdicts are module_name name entry has = record {
  verdicts = verdicts;
  are = are;
  module_name = module_name;
  name = name;
  started = has.0;
  starts = has.1;
  entered = has.2;
}

module _ (devices : List DeviceDecl) (texts : Texts) (differ : NamesOfDevicesDiffer devices) (sorted : ArePresent texts)
    (verdicts : List ℕ → ModuleVerdict) (are : AreVerdicts devices texts verdicts) where
  pub files : AreSoundFiles devices texts
  files = present_files_are_sound devices texts differ sorted

  -- what is told of the run of an entry is shown of that run
  unfoldable pub entry_shown : (module_name name : List ℕ) (fuel : ℕ) (entry : CheckedEntry) → HasEntry devices texts verdicts (module_name, name) entry
      → IsShownRun devices texts module_name name fuel entry.authority (declared_run devices fuel entry).events (declared_run devices fuel entry).ending
      (declared_run devices fuel entry).steps
  entry_shown module_name name fuel entry has = record {
    verdicts = verdicts;
    are = are;
    entry = entry;
    of_definition = has;
    of_entry = refl;
    told = declared_run devices fuel entry;
    is_run = refl;
    has_events = refl;
    has_ending = refl;
    has_steps = refl;
    safe = files.runs entry (as_present devices texts verdicts are module_name name entry has) (declared_devices devices) files.declared fuel;
  }

  pub all_present : (tasks : List (List ℕ × List ℕ)) (entries : List CheckedEntry) → HaveEntries devices texts verdicts tasks entries
      → AllByRecursion (IsPresentEntry devices texts) entries
  all_present [] entries have = subst (AllByRecursion (IsPresentEntry devices texts)) (sym have) tt
  all_present (first ∷ others) entries have =
      let (entry, later, is, rest, same) = have in
      subst (AllByRecursion (IsPresentEntry devices texts)) (sym same)
      (as_present devices texts verdicts are first.0 first.1 entry is, all_present others later rest)

  -- and what is told of those of entries together
  pub entries_shown : (fuel : ℕ) (schedule : List ℕ) (tasks : List (List ℕ × List ℕ)) (entries : List CheckedEntry)
      → HaveEntries devices texts verdicts tasks entries
      → AreShownTasks devices texts fuel schedule tasks (map (λ entry. entry.authority) entries)
      (interleaved_run fuel schedule (map program_entry entries) (declared_devices devices))
  entries_shown fuel schedule tasks entries have = record {
    verdicts = verdicts;
    are = are;
    entries = entries;
    of_definitions = have;
    of_entries = refl;
    is_report = refl;
    safe = files.tasks entries (all_present tasks entries have) (declared_devices devices) files.declared schedule fuel;
  }
