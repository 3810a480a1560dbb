-- What is shown of guarded runs is shown of runs that are safe and that the rules permit; and an entry is refused where
-- they do not.
use Rattle.std.specs.Prelude.{◌≡◌, ℕ, List}
use Rattle.std.specs.List.{AllByRecursion}
use Rattle.cc_base.specs.declared.code.Code.TheVariants.{E37}
use Rattle.cc_base.specs.declared.device.DeviceDecl.{DeviceDecl}
use Rattle.cc_base.specs.declared.literal.Op.{Op}
use Rattle.cc_base.specs.Literals.{Literal}
use Rattle.cc_device.specs.Declarations.{declared_devices}
use Rattle.cc_device.specs.Events.{Event, Operated}
use Rattle.cc_entry_laws.specs.PresentEntries.{CheckedEntry, program_entry}
use Rattle.cc_verdicts.specs.ModuleLaws.{NamesOfDevicesDiffer}
use Rattle.cc_verdicts.specs.ModuleVerdicts.{ModuleVerdict}
use Rattle.cc_verdicts.specs.PresentTexts.{ArePresent, AreVerdicts}
use Rattle.cc_runs.specs.Interleavings.{state_of}
use Rattle.cc_runs.specs.Links.{program_start}
use Rattle.cc_runs.specs.Runs.{State, Ending, Leads}
use Rattle.cc_runs.specs.SafeRuns.{IsAmong}
use Rattle.cc_mnf.specs.ElaboratedModules.{device_names}
use Rattle.cc_policy.specs.declared.policy.Rule.{Rule}
use Rattle.cc_replies.specs.PolicyReplies.{Allows, IsPermitted}
use Rattle.cc_replies.specs.Replies.{Replies}
use Rattle.cc_replies.specs.ReplyTexts.{Guarded, GuardRefused}
use Rattle.cc_replies.specs.Requests.{JobState, GuardDefinition, Ask}
use Rattle.cc_replies.specs.RunReplies.{HasEntry}
use Rattle.cc_program.specs.SoundJobs.{NamesDefinition, IsShownRun}
use Rattle.cc_program.specs.TrueReplies.{OperateAllowed}

-- What is shown of a guarded run of the definition of these names, where the rules of the state are in force.
pub record IsShownGuardedRun (devices : List DeviceDecl) (state : JobState) (module_name name : List ℕ) (fuel : ℕ)
    (authority : List ℕ) (events : List Event) (ending : Ending) (steps : ℕ) : Type 0 where
  -- it is the run of its entry's program on the declared devices, which runs safely with this authority
  pub shown : IsShownRun devices state.texts module_name name fuel authority events ending steps
  -- the rules allow the module each device of the authority
  pub permitted : AllByRecursion (Allows (device_names devices) state.rules module_name) authority
  -- and each device that is operated in what is shown
  pub operated : OperateAllowed (device_names devices) state.rules module_name events
  -- and each that the program operates up to any moment of its run, however much fuel it has
  pub at_any_moment : (now : State) (before : List Event)
      → Leads (state_of (declared_devices devices) (program_start (program_entry shown.entry))) before now
      → OperateAllowed (device_names devices) state.rules module_name before

-- Each reply that tells of a guarded run shows one of which that holds, of the definition that is asked for.
abbrev pub ShownGuardedRunsArePermitted : Type 0
ShownGuardedRunsArePermitted =
    (devices : List DeviceDecl) (state : JobState) → NamesOfDevicesDiffer devices → ArePresent state.texts
    → (module_name name owner definition : List ℕ) (fuel : ℕ) (authority : List ℕ) (events : List Event)
    (ending : Ending) (steps : ℕ)
    → Replies devices state (Ask (GuardDefinition module_name name fuel))
    (Guarded owner definition authority events ending steps)
    → NamesDefinition owner definition module_name name
    × IsShownGuardedRun devices state module_name name fuel authority events ending steps

-- The entry of the definition of these names is not permitted by the rules of the state: the rules do not allow the
-- module every device of its authority.
pub record IsNotPermitted (devices : List DeviceDecl) (state : JobState) (module_name name : List ℕ) : Type 0 where
  -- the present modules have these verdicts
  pub verdicts : List ℕ → ModuleVerdict
  pub are : AreVerdicts devices state.texts verdicts
  -- by which this is the entry of the definition
  pub entry : CheckedEntry
  pub of_definition : HasEntry devices state.texts verdicts (module_name, name) entry
  -- which is not permitted
  pub refused : IsPermitted (device_names devices) state.rules entry → ⊥

-- Each reply that refuses a run as not permitted is about an entry that is not, of the definition that is asked for.
abbrev pub RefusedEntriesAreNotPermitted : Type 0
RefusedEntriesAreNotPermitted =
    (devices : List DeviceDecl) (state : JobState) (module_name name owner definition : List ℕ) (fuel : ℕ)
    → Replies devices state (Ask (GuardDefinition module_name name fuel)) (GuardRefused owner definition E37)
    → NamesDefinition owner definition module_name name × IsNotPermitted devices state module_name name
