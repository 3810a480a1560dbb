-- What is answered where a definition is audited, or is run if the rules in force permit it.
use Rattle.std.specs.Prelude.{◌≡◌, ℕ, Bool, List, map, Option, Some, None, Result, slice_get, IsTrue, if◌then◌else◌}
use Rattle.std.specs.List.{AllByRecursion, list_all}
use Rattle.cc_base.specs.declared.code.Code.{Code}
use Rattle.cc_base.specs.declared.code.Code.TheVariants.{E37}
use Rattle.cc_base.specs.declared.device.DeviceDecl.{DeviceDecl}
use Rattle.cc_entry_laws.specs.PresentEntries.{CheckedEntry}
use Rattle.cc_verdicts.specs.ModuleVerdicts.{CheckedDefinition, ModuleVerdict}
use Rattle.cc_verdicts.specs.PresentTexts.{Texts}
use Rattle.cc_runs.specs.Runs.{Run}
use Rattle.cc_mnf.specs.ElaboratedModules.{device_names}
use Rattle.cc_policy.specs.declared.policy.Decision.{Decision}
use Rattle.cc_policy.specs.declared.policy.Rule.{Rule}
use Rattle.cc_policy.specs.Policies.{Decides, decision_of, denial}
use Rattle.cc_replies.specs.ReplyTexts.{Reply, Audited, AuditRefused, Guarded, GuardRefused}
use Rattle.cc_replies.specs.RunReplies.{declared_run, IsEntryAnswer}

-- The rules allow the module the device of this number, where devices have these names: their decision for the module
-- and the device's name is to allow.
pub record Allows (names : List (List ℕ)) (rules : List Rule) (module_name : List ℕ) (device : ℕ) : Type 0 where
  pub name : List ℕ
  pub named : slice_get names device ≡ Some name
  pub decision : Decision
  pub decides : Decides rules module_name name decision
  pub allows : IsTrue decision.allow

-- An entry is permitted: the rules allow its module each device of its authority.
abbrev pub IsPermitted : List (List ℕ) → List Rule → CheckedEntry → Type 0
IsPermitted names rules entry = AllByRecursion (Allows names rules entry.module_name) entry.authority

-- the decision for a module and a device of this name, where there is one
abbrev pub decision_named : List Rule → List ℕ → Option (List ℕ) → Decision
decision_named rules module_name (Some name) = decision_of rules module_name name
decision_named rules module_name None = denial

-- the decision for a module and the device of this number
abbrev pub decision_for : List (List ℕ) → List Rule → List ℕ → ℕ → Decision
decision_for names rules module_name device = decision_named rules module_name (slice_get names device)

-- the decisions for a module and each of these devices, in order
abbrev pub decisions : List (List ℕ) → List Rule → List ℕ → List ℕ → List (ℕ × Decision)
decisions names rules module_name devices = map (λ device. (device, decision_for names rules module_name device)) devices

-- the test of whether the rules allow the module all of these devices
abbrev pub are_allowed : List (List ℕ) → List Rule → List ℕ → List ℕ → Bool
are_allowed names rules module_name devices =
    list_all (λ device. (decision_for names rules module_name device).allow) devices

-- what is told of the audit of an entry: the decision for its module and each device of its authority
abbrev pub audit_told : List DeviceDecl → List Rule → List ℕ → List ℕ → CheckedEntry → Reply
audit_told devices rules module_name name entry =
    Audited module_name name (decisions (device_names devices) rules entry.module_name entry.authority)

-- The audit of a definition, where there is this one to be started, or why there is none.
abbrev pub IsAuditAnswer : List DeviceDecl → List Rule → Texts → (List ℕ → ModuleVerdict) → List ℕ → List ℕ
    → Result CheckedDefinition Code → Reply → Type 0
IsAuditAnswer devices rules texts verdicts module_name name =
    IsEntryAnswer devices texts verdicts module_name name (audit_told devices rules module_name name)
    (AuditRefused module_name name)

-- what is told of a run that is permitted: what is told of any run
abbrev pub permitted_told : List ℕ → List ℕ → List ℕ → Run → Reply
permitted_told module_name name authority it = Guarded module_name name authority it.events it.ending it.steps

-- what is told where an entry is run if it is permitted
abbrev pub guard_told : List DeviceDecl → List Rule → List ℕ → List ℕ → ℕ → CheckedEntry → Reply
guard_told devices rules module_name name fuel entry =
    if are_allowed (device_names devices) rules entry.module_name entry.authority
    then permitted_told module_name name entry.authority (declared_run devices fuel entry)
    else GuardRefused module_name name E37

-- The run of a definition that is permitted, where there is this one to be started, or why there is none.
abbrev pub IsGuardAnswer : List DeviceDecl → List Rule → Texts → (List ℕ → ModuleVerdict) → List ℕ → List ℕ → ℕ
    → Result CheckedDefinition Code → Reply → Type 0
IsGuardAnswer devices rules texts verdicts module_name name fuel =
    IsEntryAnswer devices texts verdicts module_name name (guard_told devices rules module_name name fuel)
    (GuardRefused module_name name)
