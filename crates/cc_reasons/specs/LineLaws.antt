-- The lines of a reason: there are such, and no others.
use Rattle.std.specs.Prelude.{◌≡◌, ℕ, List, length}
use Rattle.cc_base.specs.declared.device.DeviceDecl.{DeviceDecl}
use Rattle.cc_base.specs.declared.place.Place.{Place}
use Rattle.cc_core.specs.Contexts.{Context}
use Rattle.cc_core.specs.Holes.{HolesAreOfParameters}
use Rattle.cc_checking.specs.Verdicts.{Definition}
use Rattle.cc_checking_laws.specs.CheckingLaws.{Fits}
use Rattle.cc_mnf.specs.Scopes.{Name}
use Rattle.cc_reasons.specs.DefinitionReasons.{DefinitionReason, HasReason}
use Rattle.cc_reasons.specs.ExplainedInference.{BinderNames}
use Rattle.cc_reasons.specs.ReasonTexts.{AreLines}
use Rattle.cc_reasons.specs.RefusedDefinitions.{IsOfDefinition}
use Rattle.cc_verdicts.specs.ModuleLaws.{AreFit}
use Rattle.cc_verdicts.specs.ModuleVerdicts.{Finding}

-- A reason is told in one way.
abbrev pub LinesAreUnique : Type 0
LinesAreUnique =
    (devices : ℕ) (names : List Name) (reason : DefinitionReason) (one other : List (List ℕ))
    → AreLines devices names reason one → AreLines devices names reason other → one ≡ other

-- And what a definition that fits the globals is refused for can be told, whatever the names of the positions.
abbrev pub ReasonsHaveLines : Type 0
ReasonsHaveLines =
    (devices : ℕ) (globals : Context) (definition : Definition) (binders : BinderNames) (reason : DefinitionReason)
    (at : Place) (names : List Name)
    → Fits globals definition → HolesAreOfParameters definition.right
    → HasReason devices globals definition binders reason at
    → (lines : List (List ℕ)) × AreLines devices names reason lines

-- So can what a module is refused for, where the findings for its imports fit it.
abbrev pub ReasonsOfDefinitionsHaveLines : Type 0
ReasonsOfDefinitionsHaveLines =
    (devices : List DeviceDecl) (text : List ℕ) (findings : List Finding) (reason : DefinitionReason) (at : Place)
    (names : List Name)
    → AreFit devices text findings → IsOfDefinition devices text findings reason at names
    → (lines : List (List ℕ)) × AreLines (length devices) names reason lines
