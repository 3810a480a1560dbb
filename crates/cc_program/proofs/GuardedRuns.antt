-- What is told of an entry that is permitted is a run that the rules permit, and what is refused is not permitted.
use Rattle.std.proofs.Common.{◌≡◌, ℕ, Bool, true, false, List, [], ◌∷◌, Option, Some, None, Result, Ok, Err, refl, sym, ap, ◌∙◌, subst, if◌then◌else◌, inl, inr}
use Rattle.std.specs.List.{AllByRecursion}
use Rattle.std.specs.Option.{is_some}
use Rattle.cc_base.specs.declared.code.Code.TheVariants.{E32, E33, E34, E35, E37}
use Rattle.cc_base.specs.declared.code.Code.{Code}
use Rattle.cc_base.specs.declared.device.DeviceDecl.{DeviceDecl}
use Rattle.cc_device.specs.Declarations.{declared_devices}
use Rattle.cc_device.specs.Events.{Operated}
use Rattle.cc_entry_laws.specs.PresentEntries.{CheckedEntry, program_entry, takes_unit, started_or, started_by, started_in}
use Rattle.cc_verdicts.specs.ModuleLaws.{NamesOfDevicesDiffer}
use Rattle.cc_verdicts.specs.ModuleVerdicts.{CheckedDefinition, ModuleVerdict, IsAccepted, IsRefused}
use Rattle.cc_verdicts.specs.PresentTexts.{Texts, ArePresent, text_of, definition_named, AreVerdicts}
use Rattle.cc_runs.specs.Interleavings.{state_of}
use Rattle.cc_runs.specs.Links.{program_start}
use Rattle.cc_runs.specs.Runs.{none}
use Rattle.cc_runs.specs.SafeRuns.{IsListed, IsAmong}
use Rattle.cc_mnf.specs.ElaboratedModules.{device_names}
use Rattle.cc_replies.proofs.PolicyLaws.{permission_is_tested}
use Rattle.cc_replies.specs.PolicyReplies.{Allows, are_allowed}
use Rattle.cc_replies.specs.Requests.{JobState}
use Rattle.cc_replies.specs.RunReplies.{declared_run, HasEntry}
use Rattle.cc_program.specs.GuardedRuns.{IsShownGuardedRun, IsNotPermitted}
use Rattle.cc_program.proofs.SoundJobs.{entry_shown}

-- what holds of all of a list holds of each that is listed
pub all_listed : (P : ℕ → Type 0) (numbers : List ℕ) (number : ℕ) → AllByRecursion P numbers → IsListed number numbers → P number
all_listed P [] number all listed = absurd listed
all_listed P (first ∷ others) number all (inl same) = subst P (sym same) all.0
all_listed P (first ∷ others) number all (inr later) = all_listed P others number all.1 later

module _ (devices : List DeviceDecl) (state : JobState) (differ : NamesOfDevicesDiffer devices) (sorted : ArePresent state.texts)
    (verdicts : List ℕ → ModuleVerdict) (are : AreVerdicts devices state.texts verdicts) where
  -- the run of an entry that is permitted
  pub permitted_shown : (module_name name : List ℕ) (fuel : ℕ) (entry : CheckedEntry)
      → HasEntry devices state.texts verdicts (module_name, name) entry
      → are_allowed (device_names devices) state.rules entry.module_name entry.authority ≡ true
      → IsShownGuardedRun devices state module_name name fuel entry.authority (declared_run devices fuel entry).events
      (declared_run devices fuel entry).ending (declared_run devices fuel entry).steps
  unfolding entry_shown
  permitted_shown module_name name fuel entry has allowed =
      let shown = entry_shown devices state.texts differ sorted verdicts are module_name name fuel entry has in
      let of_entry = (permission_is_tested (device_names devices) state.rules entry.module_name entry.authority).0 allowed in
      let all = subst (λ m. AllByRecursion (Allows (device_names devices) state.rules m) entry.authority) has.2.of_module of_entry in
      let P : ℕ → Type 0 = Allows (device_names devices) state.rules module_name in
      record {
        shown = shown;
        permitted = all;
        operated = λ device operation literal among. all_listed P entry.authority device all (shown.safe.authority device operation literal among);
        at_any_moment = λ now before leads device operation literal among.
            all_listed P entry.authority device all
            ((shown.safe.moments (state_of (declared_devices devices) (program_start (program_entry entry))) [] (0, none)).permits now before leads
            device operation literal among);
      }

-- an entry that is not permitted
pub not_permitted : (devices : List DeviceDecl) (state : JobState) (verdicts : List ℕ → ModuleVerdict) → AreVerdicts devices state.texts verdicts
    → (module_name name : List ℕ) (entry : CheckedEntry) → HasEntry devices state.texts verdicts (module_name, name) entry
    → are_allowed (device_names devices) state.rules entry.module_name entry.authority ≡ false → IsNotPermitted devices state module_name name
not_permitted devices state verdicts are module_name name entry has denied = record {
  verdicts = verdicts;
  are = are;
  entry = entry;
  of_definition = has;
  refused = λ permitted.
      clash (are_allowed (device_names devices) state.rules entry.module_name entry.authority) denied
      ((permission_is_tested (device_names devices) state.rules entry.module_name entry.authority).1 permitted);
}
  where
    clash : (b : Bool) → b ≡ false → b ≡ true → ⊥
    clash b denied allowed = cc

-- no definition is not to be started for want of a permission
not_started_or : (o : Option CheckedDefinition) → started_or o ≡ Err E37 → ⊥
not_started_or (Some definition) e = at (takes_unit definition.accepted.signature.shape) e
  where
    at : (b : Bool) → ◌≡◌ {A = Result CheckedDefinition Code} (if b then Ok definition else Err E35) (Err E37) → ⊥
    at true e = cc
    at false e = cc
not_started_or None e = cc

not_started_by : (verdict : ModuleVerdict) (name : List ℕ) → started_by verdict name ≡ Err E37 → ⊥
not_started_by (IsAccepted definitions) name e = not_started_or (definition_named name definitions) e
not_started_by (IsRefused code at) name e = cc

pub not_started_in : (texts : Texts) (verdicts : List ℕ → ModuleVerdict) (module_name name : List ℕ) → started_in texts verdicts module_name name ≡ Err E37 → ⊥
not_started_in texts verdicts module_name name e = at (is_some (text_of texts module_name)) e
  where
    at : (b : Bool) → ◌≡◌ {A = Result CheckedDefinition Code} (if b then started_by (verdicts module_name) name else Err E32) (Err E37) → ⊥
    at true e = not_started_by (verdicts module_name) name e
    at false e = cc
