-- What is answered where an entry is asked for.
use Rattle.std.specs.Prelude.{◌≡◌, ℕ, List, Result, Ok, Err}
use Rattle.cc_base.specs.declared.device.DeviceDecl.{DeviceDecl}
use Rattle.cc_session.specs.declared.entry.Entry.{Entry}
use Rattle.cc_session.specs.Entries.{entry_of}
use Rattle.cc_entry_laws.specs.PresentEntries.{started_in, IsEntryOf}
use Rattle.cc_verdicts.specs.ModuleVerdicts.{CheckedDefinition, ModuleVerdict}
use Rattle.cc_verdicts.specs.PresentTexts.{Texts, AreVerdicts}
use Rattle.cc_session.specs.declared.present_entries.EntryError.{EntryError}
use Rattle.cc_session.specs.declared.present_entries.EntryError.TheVariants as errors

-- The entry of the definition that is run is answered where there is one, and else why there is none, where modules
-- have these verdicts. Memory is wanting only where there is one.
abbrev pub IsAnswered : List DeviceDecl → Texts → (List ℕ → ModuleVerdict) → List ℕ → List ℕ → Result Entry EntryError
    → Type 0
IsAnswered devices texts verdicts module_name name (Ok entry) =
    (started : CheckedDefinition) × (started_in texts verdicts module_name name ≡ Ok started)
    × IsEntryOf devices texts verdicts module_name name started (entry_of entry)
IsAnswered devices texts verdicts module_name name (Err (errors.Refused refused)) =
    started_in texts verdicts module_name name ≡ Err refused.code
IsAnswered devices texts verdicts module_name name (Err errors.NoMemory) =
    (started : CheckedDefinition) × (started_in texts verdicts module_name name ≡ Ok started)

-- this is answered where modules have the verdicts of the present texts
abbrev pub AnswersEntry : List DeviceDecl → Texts → List ℕ → List ℕ → Result Entry EntryError → Type 0
AnswersEntry devices texts module_name name result =
    (verdicts : List ℕ → ModuleVerdict) → AreVerdicts devices texts verdicts
    → IsAnswered devices texts verdicts module_name name result
