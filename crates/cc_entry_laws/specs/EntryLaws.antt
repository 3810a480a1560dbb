-- What the entries of present modules come to.
use Rattle.std.specs.Prelude.{◌≡◌, ℕ, List, Ok}
use Rattle.cc_base.specs.declared.device.DeviceDecl.{DeviceDecl}
use Rattle.cc_core.specs.Programs.{IsEntry}
use Rattle.cc_entry_laws.specs.PresentEntries.{CheckedEntry, program_entry, started_in, IsEntryOf}
use Rattle.cc_verdicts.specs.ModuleLaws.{NamesOfDevicesDiffer}
use Rattle.cc_verdicts.specs.ModuleVerdicts.{CheckedDefinition, ModuleVerdict}
use Rattle.cc_verdicts.specs.PresentTexts.{Texts, ArePresent, AreVerdicts}

-- the entry of a definition of a present module has all that an entry has
abbrev pub EntriesOfTextsAreEntries : Type 0
EntriesOfTextsAreEntries =
    (devices : List DeviceDecl) (texts : Texts) (verdicts : List ℕ → ModuleVerdict) → NamesOfDevicesDiffer devices
    → ArePresent texts → AreVerdicts devices texts verdicts
    → (module_name name : List ℕ) (started : CheckedDefinition)
    → started_in texts verdicts module_name name ≡ Ok started
    → (entry : CheckedEntry) → IsEntryOf devices texts verdicts module_name name started entry
    → IsEntry (program_entry entry)

-- where there is a definition that is run, there is its entry
abbrev pub EntriesOfTextsExist : Type 0
EntriesOfTextsExist =
    (devices : List DeviceDecl) (texts : Texts) (verdicts : List ℕ → ModuleVerdict) → NamesOfDevicesDiffer devices
    → ArePresent texts → AreVerdicts devices texts verdicts
    → (module_name name : List ℕ) (started : CheckedDefinition)
    → started_in texts verdicts module_name name ≡ Ok started
    → (entry : CheckedEntry) × IsEntryOf devices texts verdicts module_name name started entry

-- and no other
abbrev pub EntriesOfTextsAreUnique : Type 0
EntriesOfTextsAreUnique =
    (devices : List DeviceDecl) (texts : Texts) (verdicts : List ℕ → ModuleVerdict)
    (module_name name : List ℕ) (started : CheckedDefinition) (first second : CheckedEntry)
    → IsEntryOf devices texts verdicts module_name name started first
    → IsEntryOf devices texts verdicts module_name name started second → first ≡ second

-- The verdicts that a function gives to modules that are not present count for nothing: by each function that gives
-- those of the present ones the definition that is run, or why there is none, is the same.
abbrev pub StartedDefinitionsAreOne : Type 0
StartedDefinitionsAreOne =
    (devices : List DeviceDecl) (texts : Texts) (first second : List ℕ → ModuleVerdict) (module_name name : List ℕ)
    → ArePresent texts → AreVerdicts devices texts first → AreVerdicts devices texts second
    → started_in texts first module_name name ≡ started_in texts second module_name name

-- what is its entry by one of them is its entry by the other
abbrev pub EntriesAreOfAnyVerdicts : Type 0
EntriesAreOfAnyVerdicts =
    (devices : List DeviceDecl) (texts : Texts) (first second : List ℕ → ModuleVerdict) (module_name name : List ℕ)
    (started : CheckedDefinition) (entry : CheckedEntry)
    → ArePresent texts → AreVerdicts devices texts first → AreVerdicts devices texts second
    → started_in texts first module_name name ≡ Ok started
    → IsEntryOf devices texts first module_name name started entry
    → IsEntryOf devices texts second module_name name started entry

-- so a definition that is run by two of them has one entry
abbrev pub EntriesAreOne : Type 0
EntriesAreOne =
    (devices : List DeviceDecl) (texts : Texts) (first second : List ℕ → ModuleVerdict) (module_name name : List ℕ)
    (one other : CheckedDefinition) (entry again : CheckedEntry)
    → ArePresent texts → AreVerdicts devices texts first → AreVerdicts devices texts second
    → started_in texts first module_name name ≡ Ok one → started_in texts second module_name name ≡ Ok other
    → IsEntryOf devices texts first module_name name one entry
    → IsEntryOf devices texts second module_name name other again → entry ≡ again
