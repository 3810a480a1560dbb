-- What holds of whatever run is told to a host, whatever it says.
use Rattle.std.specs.Prelude.{◌≡◌, ◌⊎◌, ℕ, List, ◌++◌, Option}
use Rattle.cc_base.specs.Literals.{Literal}
use Rattle.cc_base.specs.declared.device.DeviceDecl.{DeviceDecl}
use Rattle.cc_base.specs.declared.literal.Op.{Op}
use Rattle.cc_binding.specs.BindingLaws.{IsNamedAmong, IsAllowedWhereNamed}
use Rattle.cc_device.specs.Events.{Event}
use Rattle.cc_entry_laws.specs.PresentEntries.{CheckedEntry, program_entry, started_in, IsEntryOf}
use Rattle.cc_hosting.specs.HostedRuns.{refused_course, IsHosted}
use Rattle.cc_live.specs.LiveLaws.{IsAnswered, IsSafelyLive}
use Rattle.cc_live.specs.LiveRuns.{Live, Course, live}
use Rattle.cc_mnf.specs.ElaboratedModules.{device_names}
use Rattle.cc_replay.specs.AnsweredRuns.{GoesOnTo}
use Rattle.cc_replies.specs.PolicyReplies.{IsPermitted}
use Rattle.cc_replies.specs.Requests.{JobState}
use Rattle.cc_runs.specs.Links.{program_start}
use Rattle.cc_runs.specs.Machine.{Configuration, Ask, step}
use Rattle.cc_verdicts.specs.ModuleLaws.{NamesOfDevicesDiffer}
use Rattle.cc_verdicts.specs.ModuleVerdicts.{CheckedDefinition, ModuleVerdict}
use Rattle.cc_verdicts.specs.PresentTexts.{ArePresent, AreVerdicts}
use Rattle.cc_words.specs.Lines.{Line}
use Rattle.std.specs.Prelude.{Ok}

-- At each moment of a run, a device that is asked, be it answered or not, is named by the text of a linked module, and each
-- linked module that names it is allowed it by the rules in force.
abbrev pub AsksAsAllowed : List DeviceDecl → JobState → CheckedEntry → Type 0
AsksAsAllowed devices state entry =
    (moment : Configuration) (count : ℕ) (before : List Event)
    → GoesOnTo count (program_start (program_entry entry)) before moment
    → (device : ℕ) (operation : Op) (argument : Option Literal) (resume : Literal → Configuration)
    → step moment ≡ Ask device operation argument resume
    → IsNamedAmong device entry.modules × IsAllowedWhereNamed (device_names devices) state.rules device entry.modules

-- What was told is the live run of the definition's entry, behind a text. It is answered as the host said, safe in the devices
-- that the entry may operate, all of which the rules allow to its module, and asks as they allow.
pub record KeepsToRules (devices : List DeviceDecl) (state : JobState) (owner definition : List ℕ) (fuel : ℕ) (lines : List Line)
    (it : Live) : Type 0 where
  pub verdicts : List ℕ → ModuleVerdict
  pub are : AreVerdicts devices state.texts verdicts
  pub started : CheckedDefinition
  pub starts : started_in state.texts verdicts owner definition ≡ Ok started
  pub entry : CheckedEntry
  pub is : IsEntryOf devices state.texts verdicts owner definition started entry
  pub permitted : IsPermitted (device_names devices) state.rules entry
  pub front : List ℕ
  pub text : it.text ≡ front ++ (live (device_names devices) fuel (program_start (program_entry entry)) lines).text
  pub standing : it.standing ≡ (live (device_names devices) fuel (program_start (program_entry entry)) lines).standing
  pub answered : IsAnswered (device_names devices) fuel (program_start (program_entry entry))
      (live (device_names devices) fuel (program_start (program_entry entry)) lines)
  pub safe : IsSafelyLive entry.authority (program_start (program_entry entry)) answered.steps answered.events answered.now
  pub asks : AsksAsAllowed devices state entry

-- So it is with each run that is told to a host, whatever it says; or the run was refused with a text, and nothing was run.
abbrev pub HostedRunsKeepToRules : Type 0
HostedRunsKeepToRules =
    (devices : List DeviceDecl) (state : JobState) (owner definition : List ℕ) (fuel : ℕ) (course : Course)
    → NamesOfDevicesDiffer devices → ArePresent state.texts → IsHosted devices state owner definition fuel course
    → (lines : List Line)
    → ((text : List ℕ) × (course ≡ refused_course text)) ⊎ KeepsToRules devices state owner definition fuel lines (course lines)
