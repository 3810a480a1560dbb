-- The entries of present texts are entries of accepted modules, and these are entries of typed ones.
use Rattle.std.specs.Prelude.{◌≡◌, ℕ, List, Ok}
use Rattle.std.specs.List.{IsDistinct}
use Rattle.std.specs.Str.{bytes_eq}
use Rattle.cc_base.specs.declared.device.DeviceDecl.{DeviceDecl}
use Rattle.cc_core.specs.Programs.{Entry, IsEntry}
use Rattle.cc_device.specs.Declarations.{declared_bases}
use Rattle.cc_mnf.specs.ElaboratedModules.{device_names}
use Rattle.cc_verdicts.specs.ModuleVerdicts.{CheckedDefinition, ModuleVerdict}
use Rattle.cc_verdicts.specs.PresentTexts.{Texts, ArePresent, AreVerdicts}
use Rattle.cc_entry_laws.specs.PresentEntries.{CheckedEntry, program_entry, started_in, IsEntryOf}
use Rattle.cc_sound_laws.specs.AcceptedEntries.{IsAcceptedEntry}

-- The entry of a definition that is run is one of accepted modules.
abbrev pub PresentEntriesAreAccepted : Type 0
PresentEntriesAreAccepted =
    (devices : List DeviceDecl) (texts : Texts) (verdicts : List ℕ → ModuleVerdict)
    → IsDistinct bytes_eq (device_names devices) → ArePresent texts → AreVerdicts devices texts verdicts
    → (module_name name : List ℕ) (started : CheckedDefinition)
    → started_in texts verdicts module_name name ≡ Ok started
    → (entry : CheckedEntry) → IsEntryOf devices texts verdicts module_name name started entry
    → IsAcceptedEntry (device_names devices) (declared_bases devices) texts (program_entry entry)

-- There is one for each definition that a run would not refuse.
abbrev pub StartedDefinitionsHaveEntries : Type 0
StartedDefinitionsHaveEntries =
    (devices : List DeviceDecl) (texts : Texts) (verdicts : List ℕ → ModuleVerdict)
    → IsDistinct bytes_eq (device_names devices) → ArePresent texts → AreVerdicts devices texts verdicts
    → (module_name name : List ℕ) (started : CheckedDefinition)
    → started_in texts verdicts module_name name ≡ Ok started
    → (entry : CheckedEntry) × IsEntryOf devices texts verdicts module_name name started entry
    × IsAcceptedEntry (device_names devices) (declared_bases devices) texts (program_entry entry)

-- An entry of accepted modules has all that an entry of typed ones has.
abbrev pub AcceptedEntriesAreEntries : Type 0
AcceptedEntriesAreEntries =
    (devices : List DeviceDecl) (texts : Texts) (entry : Entry) → IsDistinct bytes_eq (device_names devices)
    → IsAcceptedEntry (device_names devices) (declared_bases devices) texts entry → IsEntry entry
