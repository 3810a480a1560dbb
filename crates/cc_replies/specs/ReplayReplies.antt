-- What is answered where lines are replayed with a definition.
use Rattle.std.specs.Prelude.{ℕ, List, Result}
use Rattle.cc_base.specs.declared.code.Code.{Code}
use Rattle.cc_base.specs.declared.device.DeviceDecl.{DeviceDecl}
use Rattle.cc_entry_laws.specs.PresentEntries.{CheckedEntry, program_entry}
use Rattle.cc_verdicts.specs.ModuleVerdicts.{CheckedDefinition, ModuleVerdict}
use Rattle.cc_verdicts.specs.PresentTexts.{Texts}
use Rattle.cc_runs.specs.Links.{program_start}
use Rattle.cc_mnf.specs.ElaboratedModules.{device_names}
use Rattle.cc_replay.specs.Replays.{replay}
use Rattle.cc_replies.specs.ReplyTexts.{Reply, Replayed, ReplayRefused}
use Rattle.cc_replies.specs.RunReplies.{IsEntryAnswer}
use Rattle.cc_words.specs.Lines.{lines_of}

-- What is told of the replay of the lines of a text with an entry's program, where the devices have these names. No device
-- is operated.
abbrev pub replay_told : List (List ℕ) → List ℕ → List ℕ → ℕ → List ℕ → CheckedEntry → Reply
replay_told names module_name name fuel text entry =
    Replayed module_name name (replay names fuel (program_start (program_entry entry)) (lines_of text))

-- The replay with a definition, where there is this one to be started, or why there is none.
abbrev pub IsReplayAnswer : List DeviceDecl → Texts → (List ℕ → ModuleVerdict) → List ℕ → List ℕ → ℕ → List ℕ
    → Result CheckedDefinition Code → Reply → Type 0
IsReplayAnswer devices texts verdicts module_name name fuel text =
    IsEntryAnswer devices texts verdicts module_name name (replay_told (device_names devices) module_name name fuel text)
    (ReplayRefused module_name name)
