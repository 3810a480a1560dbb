-- The laws of rules that bind each linked module.
use Rattle.std.specs.Prelude.{◌≡◌, ◌↔◌, ◌⊎◌, ℕ, ◌+◌, ◌<◌, List, [], ◌∷◌, ◌++◌, length, Contains, Option, Some, None, IsTrue}
use Rattle.std.specs.List.{AllByRecursion}
use Rattle.cc_base.specs.Literals.{Literal}
use Rattle.cc_base.specs.declared.literal.Op.{Op}
use Rattle.cc_binding.specs.Binding.{KeepsRules, BindsAll, first_beyond, unused_rules}
use Rattle.cc_binding.specs.NamedDevices.{names_position, module_names}
use Rattle.cc_capture.specs.declared.var.Var.TheVariants.{Free}
use Rattle.cc_capture.specs.declared.var.Elem.TheVariants.{Var as Variable}
use Rattle.cc_capture.specs.Sets.{Member}
use Rattle.cc_core.specs.Captured.{captured_variables}
use Rattle.cc_core.specs.Programs.{IsEntry}
use Rattle.cc_core.specs.Terms.{Term}
use Rattle.cc_device.specs.Events.{Operated}
use Rattle.cc_entry_laws.specs.PresentEntries.{CheckedModule, CheckedEntry, program_entry}
use Rattle.cc_policy.specs.declared.policy.Rule.{Rule}
use Rattle.cc_replay.specs.AnsweredRuns.{AnsweredRun}
use Rattle.cc_replies.specs.PolicyReplies.{Allows}
use Rattle.cc_runs.specs.Links.{program_start}
use Rattle.cc_runs.specs.SafeRuns.{IsAmong}
use Rattle.cc_verdicts.specs.PresentTexts.{Texts, text_of}

-- Of modules in order, beside so many devices, the device is the first that the first module beyond the rules names
-- without being allowed it. That module has the name. Those before it keep the rules, and so does it as far as lower
-- devices go.
pub record IsFirstBeyond (names : List (List ℕ)) (rules : List Rule) (count : ℕ) (modules : List CheckedModule)
    (module_name : List ℕ) (device : ℕ) : Type 0 where
  pub before : List CheckedModule
  pub current : CheckedModule
  pub behind : List CheckedModule
  pub stands : modules ≡ before ++ current ∷ behind
  pub others : AllByRecursion (KeepsRules names rules count) before
  pub of_name : current.name ≡ module_name
  pub declared : device < count
  pub named : IsTrue (module_names device current)
  pub lower : KeepsRules names rules device current
  pub beyond : Allows names rules module_name device → ⊥

-- Nothing is found exactly where the rules bind all modules of an entry, and a module with a device exactly where these
-- are the first.
abbrev pub FirstBeyondIsFirst : Type 0
FirstBeyondIsFirst =
    (names : List (List ℕ)) (rules : List Rule) (entry : CheckedEntry)
    → ((first_beyond names rules (length entry.devices) entry.modules ≡ None) ↔ BindsAll names rules entry)
    × ((module_name : List ℕ) (device : ℕ)
    → (first_beyond names rules (length entry.devices) entry.modules ≡ Some (module_name, device))
    ↔ IsFirstBeyond names rules (length entry.devices) entry.modules module_name device)

-- what a term captures it names
abbrev pub CapturedPositionsAreNamed : Type 0
CapturedPositionsAreNamed =
    (position : ℕ) (term : Term) → Member (Variable (Free position)) (captured_variables term)
    → IsTrue (names_position position term)

-- one of the modules names the device
abbrev pub IsNamedAmong : ℕ → List CheckedModule → Type 0
IsNamedAmong device modules = (current : CheckedModule) × Contains modules current × IsTrue (module_names device current)

-- In no run of an entry's program, whatever its devices are answered, is a device operated that the text of no linked
-- module names.
abbrev pub OperatedDevicesAreNamed : Type 0
OperatedDevicesAreNamed =
    (entry : CheckedEntry) → IsEntry (program_entry entry)
    → (fuel : ℕ) (it : AnsweredRun fuel (program_start (program_entry entry)))
    → (device : ℕ) (operation : Op) (literal : Literal) → IsAmong (Operated device operation literal) it.events
    → IsNamedAmong device entry.modules

-- each of the modules that names the device is allowed it
abbrev pub IsAllowedWhereNamed : List (List ℕ) → List Rule → ℕ → List CheckedModule → Type 0
IsAllowedWhereNamed names rules device modules =
    (current : CheckedModule) → Contains modules current → IsTrue (module_names device current)
    → Allows names rules current.name device

-- So where the rules bind all modules, each device that is operated is named by a linked module, and each linked module
-- that names it is allowed it.
abbrev pub BoundDevicesAreAllowed : Type 0
BoundDevicesAreAllowed =
    (names : List (List ℕ)) (rules : List Rule) (entry : CheckedEntry) → IsEntry (program_entry entry)
    → BindsAll names rules entry
    → (fuel : ℕ) (it : AnsweredRun fuel (program_start (program_entry entry)))
    → (device : ℕ) (operation : Op) (literal : Literal) → IsAmong (Operated device operation literal) it.events
    → IsNamedAmong device entry.modules × IsAllowedWhereNamed names rules device entry.modules

-- what a rule says of a module is the name of one that is not present
abbrev pub IsOfNoModule : Texts → Option (List ℕ) → Type 0
IsOfNoModule texts (Some name) = text_of texts name ≡ None
IsOfNoModule texts None = ⊥

-- what a rule says of a device is the name of one that is not declared
abbrev pub IsOfNoDevice : List (List ℕ) → Option (List ℕ) → Type 0
IsOfNoDevice devices (Some name) = Contains devices name → ⊥
IsOfNoDevice devices None = ⊥

-- The number, counted from 1, is that of a rule about what is not there.
pub record IsUnused (texts : Texts) (devices : List (List ℕ)) (rules : List Rule) (number : ℕ) : Type 0 where
  pub before : List Rule
  pub rule : Rule
  pub behind : List Rule
  pub stands : rules ≡ before ++ rule ∷ behind
  pub counted : number ≡ length before + 1
  pub unused : IsOfNoModule texts rule.«module» ⊎ IsOfNoDevice devices rule.device

-- the numbers of unused rules are these
abbrev pub UnusedRulesAreUnused : Type 0
UnusedRulesAreUnused =
    (texts : Texts) (devices : List (List ℕ)) (rules : List Rule) (number : ℕ)
    → Contains (unused_rules texts devices rules) number ↔ IsUnused texts devices rules number

-- each number is less than all that follow it
abbrev pub AreRising : List ℕ → Type 0
AreRising [] = Unit {0}
AreRising (first ∷ others) = AllByRecursion (λ number. first < number) others × AreRising others

-- and they rise
abbrev pub UnusedRulesRise : Type 0
UnusedRulesRise =
    (texts : Texts) (devices : List (List ℕ)) (rules : List Rule) → AreRising (unused_rules texts devices rules)
