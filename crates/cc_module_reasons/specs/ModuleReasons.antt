-- Why a module is refused, and that it is refused for one reason alone.
use Rattle.std.specs.Prelude.{◌≡◌, ℕ, List}
use Rattle.cc_base.specs.declared.code.Code.{Code}
use Rattle.cc_base.specs.declared.device.DeviceDecl.{DeviceDecl}
use Rattle.cc_base.specs.declared.place.Place.{Place}
use Rattle.cc_elaboration_reasons.specs.ElaborationCauses.{ElaborationCause, code_of}
use Rattle.cc_elaboration_reasons.specs.RefusedModules.{IsOfElaboration}
use Rattle.cc_mnf.specs.Scopes.{Name}
use Rattle.cc_module_reasons.specs.ImportReasons.{ImportReason, import_code, HasImportReason}
use Rattle.cc_text_reasons.specs.TextReasons.{TextReason, text_code, HasTextReason}
use Rattle.cc_reasons.specs.DefinitionReasons.{DefinitionReason, code_of_reason}
use Rattle.cc_reasons.specs.RefusedDefinitions.{IsOfDefinition}
use Rattle.cc_verdicts.specs.ModuleVerdicts.{CheckedDefinition, ModuleVerdict, IsAccepted, IsRefused, HasModuleVerdict}
use Rattle.cc_verdicts.specs.PresentTexts.{Texts, findings_for}

-- The reason is that of a text that is no module, of an import that finds no definition, of a name or of the normal form, or
-- of a definition, where positions have these names.
pub data ModuleReason : Type 0 where
  OfText : (reason : TextReason) → ModuleReason
  OfImport : (reason : ImportReason) → ModuleReason
  OfElaboration : (cause : ElaborationCause) → ModuleReason
  OfDefinition : (reason : DefinitionReason) (names : List Name) → ModuleReason

-- the code of a refusal for the reason
abbrev pub module_code : ModuleReason → Code
module_code (OfText reason) = text_code reason
module_code (OfImport reason) = import_code reason
module_code (OfElaboration cause) = code_of cause
module_code (OfDefinition reason names) = code_of_reason reason

-- The text of the module of the name is refused for this reason, at this place, among the present texts, whose modules have
-- these verdicts.
pub data IsReason (devices : List DeviceDecl) (texts : Texts) (verdicts : List ℕ → ModuleVerdict) (name text : List ℕ) :
    ModuleReason → Place → Type 0 where
  of_text : {reason : TextReason} {at : Place} → HasTextReason text reason at
      → IsReason devices texts verdicts name text (OfText reason) at
  of_import : {reason : ImportReason} {at : Place} → HasImportReason texts verdicts name text reason at
      → IsReason devices texts verdicts name text (OfImport reason) at
  of_elaboration : {cause : ElaborationCause} {at : Place}
      → IsOfElaboration devices text (findings_for texts verdicts name text) cause at
      → IsReason devices texts verdicts name text (OfElaboration cause) at
  of_definition : {reason : DefinitionReason} {at : Place} {names : List Name}
      → IsOfDefinition devices text (findings_for texts verdicts name text) reason at names
      → IsReason devices texts verdicts name text (OfDefinition reason names) at

-- What has a reason is refused, with its code at its place.
abbrev pub ModuleReasonsAreOfRefusals : Type 0
ModuleReasonsAreOfRefusals =
    (devices : List DeviceDecl) (texts : Texts) (verdicts : List ℕ → ModuleVerdict) (name text : List ℕ)
    (reason : ModuleReason) (at : Place)
    → IsReason devices texts verdicts name text reason at
    → HasModuleVerdict devices text (findings_for texts verdicts name text) (IsRefused (module_code reason) at)

-- What is refused has a reason with that code, at that place.
abbrev pub RefusedModulesHaveAReason : Type 0
RefusedModulesHaveAReason =
    (devices : List DeviceDecl) (texts : Texts) (verdicts : List ℕ → ModuleVerdict) (name text : List ℕ)
    (code : Code) (at : Place)
    → HasModuleVerdict devices text (findings_for texts verdicts name text) (IsRefused code at)
    → (reason : ModuleReason) × (code ≡ module_code reason) × IsReason devices texts verdicts name text reason at

-- And it has one alone.
abbrev pub ModuleReasonsAreUnique : Type 0
ModuleReasonsAreUnique =
    (devices : List DeviceDecl) (texts : Texts) (verdicts : List ℕ → ModuleVerdict) (name text : List ℕ)
    (one other : ModuleReason) (at place : Place)
    → IsReason devices texts verdicts name text one at → IsReason devices texts verdicts name text other place
    → (one ≡ other) × (at ≡ place)

-- What is accepted has none.
abbrev pub AcceptedModulesHaveNoReason : Type 0
AcceptedModulesHaveNoReason =
    (devices : List DeviceDecl) (texts : Texts) (verdicts : List ℕ → ModuleVerdict) (name text : List ℕ)
    (definitions : List CheckedDefinition) (reason : ModuleReason) (at : Place)
    → HasModuleVerdict devices text (findings_for texts verdicts name text) (IsAccepted definitions)
    → IsReason devices texts verdicts name text reason at → ⊥
