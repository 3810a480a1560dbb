-- Why a module's text is refused for its names or its normal form, with what is found for its imports.
use Rattle.std.specs.Prelude.{◌≡◌, ℕ, List, None}
use Rattle.cc_base.specs.declared.code.Code.{Code}
use Rattle.cc_base.specs.declared.device.DeviceDecl.{DeviceDecl}
use Rattle.cc_base.specs.declared.place.Place.{Place}
use Rattle.cc_grammar.specs.Syntax.{ModuleSyntax}
use Rattle.cc_mnf.specs.ElaboratedModules.{elaboration, device_names}
use Rattle.cc_mnf.specs.ElaboratedModules as elaborated
use Rattle.cc_verdicts.specs.ModuleVerdicts.{Finding, HasModuleVerdict, IsRefused, first_missing}
use Rattle.cc_verdicts.specs.Readings.{HasReading, IsTree}
use Rattle.cc_elaboration_reasons.specs.ElaborationCauses.{ElaborationCause, code_of, refused}
use Rattle.cc_elaboration_reasons.specs.ExplainedElaboration.{first_refusal}

-- The text is a module, its imports are there, and its first refusal is for this cause at this place.
pub record IsOfElaboration (devices : List DeviceDecl) (text : List ℕ) (findings : List Finding) (cause : ElaborationCause)
    (at : Place) : Type 0 where
  pub tree : ModuleSyntax
  pub reads : HasReading text (IsTree tree)
  pub found : first_missing tree.imports findings ≡ None
  pub first : first_refusal (device_names devices) tree ≡ refused cause at

-- a module with such a cause has that verdict
abbrev pub CausesAreOfVerdicts : Type 0
CausesAreOfVerdicts =
    (devices : List DeviceDecl) (text : List ℕ) (findings : List Finding) (cause : ElaborationCause) (at : Place)
    → IsOfElaboration devices text findings cause at
    → HasModuleVerdict devices text findings (IsRefused (code_of cause) at)

-- A module that elaboration refuses has such a cause, with that code at that place.
abbrev pub RefusedModulesHaveACause : Type 0
RefusedModulesHaveACause =
    (devices : List DeviceDecl) (text : List ℕ) (findings : List Finding) (tree : ModuleSyntax) (code : Code)
    (at : Place)
    → HasReading text (IsTree tree) → first_missing tree.imports findings ≡ None
    → elaboration (device_names devices) tree ≡ elaborated.IsRefused code at
    → (cause : ElaborationCause) × (code ≡ code_of cause) × IsOfElaboration devices text findings cause at

-- and it has one alone
abbrev pub CausesOfModulesAreUnique : Type 0
CausesOfModulesAreUnique =
    (devices : List DeviceDecl) (text : List ℕ) (findings : List Finding) (one other : ElaborationCause)
    (at place : Place)
    → IsOfElaboration devices text findings one at → IsOfElaboration devices text findings other place
    → (one ≡ other) × (at ≡ place)
