-- The verdict of a module's text, where it is known what is found for its imports.
use Rattle.std.specs.Prelude.{◌≡◌, ℕ, Bool, List, [], ◌∷◌, length, Option, Some, None}
use Rattle.cc_base.specs.declared.code.Code.{Code}
use Rattle.cc_base.specs.declared.code.Code.TheVariants.{E05, E06, E07, E08}
use Rattle.cc_base.specs.declared.device.DeviceDecl.{DeviceDecl}
use Rattle.cc_base.specs.declared.place.Place.{Place}
use Rattle.cc_core.specs.Shapes.{CapturingType}
use Rattle.cc_core.specs.Contexts.{Context, entry_of}
use Rattle.cc_core.specs.Programs.{Definition as ProgramDefinition, device_context}
use Rattle.cc_device.specs.Declarations.{declared_bases}
use Rattle.cc_grammar.specs.Syntax.{ImportSyntax, ModuleSyntax}
use Rattle.cc_mnf.specs.ElaboratedModules.{CoreDefinition, CoreModule, elaboration, device_names}
use Rattle.cc_mnf.specs.ElaboratedModules as elaborated
use Rattle.cc_checking.specs.Verdicts.{Definition, Accepted}
use Rattle.cc_checking.specs.Verdicts as definitions
use Rattle.cc_verdicts.specs.Readings.{IsTree, IsNoModule, HasReading}

-- What is found for an import: a definition with this signature; no module of the name; a module from which imports
-- lead to the importing one; a module that is refused; or an accepted one without the definition.
pub data Finding : Type 0 where
  FoundDefinition : (signature : CapturingType) → Finding
  NoModule : Finding
  InCycle : Finding
  RefusedModule : Finding
  NoDefinition : Finding

-- A definition of an accepted module: its name, whether it is recursive, and what it is accepted as.
pub record CheckedDefinition : Type 0 where
  pub name : List ℕ
  pub recursive : Bool
  pub accepted : Accepted

-- a module is accepted, with its definitions in order, or refused with a code and a place
pub data ModuleVerdict : Type 0 where
  IsAccepted : (definitions : List CheckedDefinition) → ModuleVerdict
  IsRefused : (code : Code) (at : Place) → ModuleVerdict

-- the code of an import for which no definition is found
abbrev pub code_of : Finding → Option Code
code_of (FoundDefinition signature) = None
code_of NoModule = Some E05
code_of InCycle = Some E08
code_of RefusedModule = Some E07
code_of NoDefinition = Some E06

-- a refusal: a code, and the place where it stands
pub record Refusal : Type 0 where
  pub code : Code
  pub at : Place

-- the refusal of the import at the place with this code, or else what comes after it
abbrev pub missing_or : Place → Option Code → Option Refusal → Option Refusal
missing_or at (Some code) others = Some (record { code = code; at = at })
missing_or at None others = others

-- the first import for which no definition is found; it stands at the module's name
abbrev pub first_missing : List ImportSyntax → List Finding → Option Refusal
first_missing [] findings = None
first_missing (first ∷ rest) [] = None
first_missing (first ∷ rest) (finding ∷ findings) =
    missing_or first.at (code_of finding) (first_missing rest findings)

-- the context of the declared devices, in order
abbrev pub declared_context : List DeviceDecl → Context
declared_context devices = device_context (declared_bases devices)

-- the context with one more import, if a definition is found for it
abbrev pub with_finding : Context → Finding → Context
with_finding context (FoundDefinition signature) = entry_of signature ∷ context
with_finding context _ = context

-- the context with the signatures that are found, in order
abbrev pub with_findings : Context → List Finding → Context
with_findings context [] = context
with_findings context (first ∷ rest) = with_findings (with_finding context first) rest

-- an elaborated definition as one to be checked
abbrev pub to_be_checked : CoreDefinition → Definition
to_be_checked it = record {
  name_at = it.name_at;
  note = it.note;
  recursive = it.recursive;
  right = it.right;
  places = it.places;
}

-- the definition that is accepted so
abbrev pub checked_as : CoreDefinition → Accepted → CheckedDefinition
checked_as it accepted = record { name = it.name; recursive = it.recursive; accepted = accepted }

-- the verdict with an accepted definition before the others
abbrev pub after_definition : CheckedDefinition → ModuleVerdict → ModuleVerdict
after_definition first (IsAccepted definitions) = IsAccepted (first ∷ definitions)
after_definition first (IsRefused code at) = IsRefused code at

-- The verdict of definitions in order. Each is checked in the context of the signatures before it, and the first that
-- is refused decides.
pub data AreJudged (devices : ℕ) : Context → List CoreDefinition → ModuleVerdict → Type 0 where
  no_more : {context : Context} → AreJudged devices context [] (IsAccepted [])
  refused_first : {context : Context} {first : CoreDefinition} {rest : List CoreDefinition} {code : Code} {at : Place}
      → definitions.HasVerdict devices context (to_be_checked first) (definitions.IsRefused code at)
      → AreJudged devices context (first ∷ rest) (IsRefused code at)
  accepted_first : {context : Context} {first : CoreDefinition} {rest : List CoreDefinition} {accepted : Accepted}
      {verdict : ModuleVerdict}
      → definitions.HasVerdict devices context (to_be_checked first) (definitions.IsAccepted accepted)
      → AreJudged devices (entry_of accepted.signature ∷ context) rest verdict
      → AreJudged devices context (first ∷ rest) (after_definition (checked_as first accepted) verdict)

-- The verdict of a module's text beside the devices, with what is found for its imports in order. A text that is no
-- module is refused as such; then the first import for which no definition is found; then what names and normal form
-- refuse; then the first definition that is refused.
pub data HasModuleVerdict (devices : List DeviceDecl) (text : List ℕ) (findings : List Finding) :
    ModuleVerdict → Type 0 where
  is_no_module : {code : Code} {at : Place} → HasReading text (IsNoModule code at)
      → HasModuleVerdict devices text findings (IsRefused code at)
  import_is_missing : {tree : ModuleSyntax} {missing : Refusal} → HasReading text (IsTree tree)
      → first_missing tree.imports findings ≡ Some missing
      → HasModuleVerdict devices text findings (IsRefused missing.code missing.at)
  is_not_elaborated : {tree : ModuleSyntax} {code : Code} {at : Place} → HasReading text (IsTree tree)
      → first_missing tree.imports findings ≡ None
      → elaboration (device_names devices) tree ≡ elaborated.IsRefused code at
      → HasModuleVerdict devices text findings (IsRefused code at)
  is_judged : {tree : ModuleSyntax} {core : CoreModule} {verdict : ModuleVerdict} → HasReading text (IsTree tree)
      → first_missing tree.imports findings ≡ None
      → elaboration (device_names devices) tree ≡ elaborated.IsElaborated core
      → AreJudged (length devices) (with_findings (declared_context devices) findings) core.definitions verdict
      → HasModuleVerdict devices text findings verdict

-- an accepted definition as one of a program
abbrev pub in_program : CheckedDefinition → ProgramDefinition
in_program it = record {
  name = it.name;
  value = it.accepted.filled;
  signature = it.accepted.signature;
  is_recursive = it.recursive;
}
