-- What runs of entries are told as, and what starting several definitions comes to. It serves the code alone.
use Rattle.std.specs.Prelude.{◌≡◌, ℕ, List, map, Some, None, slice_get}
use Rattle.cc_base.specs.declared.device.DeviceDecl.{DeviceDecl}
use Rattle.std.specs.List.{AllByRecursion}
use Rattle.cc_session.specs.Entries.{entry_of}
use Rattle.cc_entry_laws.specs.PresentEntries.{CheckedEntry}
use Rattle.cc_verdicts.specs.ModuleVerdicts.{ModuleVerdict}
use Rattle.cc_verdicts.specs.PresentTexts.{Texts}
use Rattle.cc_replies.specs.ReplyTexts.{run_text}
use Rattle.cc_replies.specs.RunReplies.{declared_run, first_unstarted, HaveEntries}
use Rattle.cc_answers.specs.LinkedPrograms.{IsProgramOf}
use Rattle.cc_answers.specs.declared.running.Started.{Started}
use Rattle.cc_answers.specs.declared.running.Started.TheVariants.{All, Refused}

-- the text of a reply of the word that tells of the run of an entry on the declared devices
abbrev pub entry_text : List ℕ → List (List ℕ) → List ℕ → List ℕ → List DeviceDecl → ℕ → CheckedEntry → List ℕ
entry_text word names module_name name devices fuel entry =
    run_text word names module_name name entry.authority (declared_run devices fuel entry).events
    (declared_run devices fuel entry).ending (declared_run devices fuel entry).steps

-- each definition has its entry, or this is the first that has none
abbrev pub AreStarted : List DeviceDecl → Texts → (List ℕ → ModuleVerdict) → List (List ℕ × List ℕ) → Started → Type 0
AreStarted devices texts verdicts tasks (All entries) =
    (first_unstarted texts verdicts tasks ≡ None) × HaveEntries devices texts verdicts tasks (map (λ it. entry_of it.value.entry) entries.items)
AreStarted devices texts verdicts tasks (Refused code task) =
    (names : List ℕ × List ℕ) × (slice_get tasks task ≡ Some names)
    × (first_unstarted texts verdicts tasks
    ≡ Some (record { module_name = names.0; name = names.1; code = code }))

-- each definition that is started has its program
abbrev pub HavePrograms : Started → Type 0
HavePrograms (All entries) = AllByRecursion (λ it. IsProgramOf it.value.program it.value.entry) entries.items
HavePrograms (Refused code task) = Unit {0}
