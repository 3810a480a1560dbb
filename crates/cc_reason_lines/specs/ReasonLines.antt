-- The reasons that can be told, and that those for which definitions are refused can be.
use Rattle.std.specs.Prelude.{ℕ, List}
use Rattle.cc_base.specs.declared.place.Place.{Place}
use Rattle.cc_core.specs.Contexts.{Context}
use Rattle.cc_core.specs.Holes.{HolesAreOfParameters}
use Rattle.cc_checking.specs.Verdicts.{Definition}
use Rattle.cc_checking_laws.specs.CheckingLaws.{Fits}
use Rattle.cc_mnf.specs.ElaboratedModules.{CoreDefinition}
use Rattle.cc_mnf.specs.Scopes.{Name}
use Rattle.cc_verdicts.specs.ReadyDefinitions.{AreReady}
use Rattle.cc_reasons.specs.DefinitionReasons.{DefinitionReason, OfStep, NotBelow, WithCap, HasReason}
use Rattle.cc_reasons.specs.ExplainedInference.{BinderNames}
use Rattle.cc_reasons.specs.RefusedDefinitions.{IsRefusedFirst}
use Rattle.cc_captured_reasons.specs.FilledScenes.{IsFilledScene}
use Rattle.cc_cause_texts.specs.CauseLines.{CanBeTold}

-- What a step compares is well formed and does not match; and where a set is not below another, the scene and that set are
-- well formed and have no hole left.
abbrev pub ReasonCanBeTold : DefinitionReason → Type 0
ReasonCanBeTold (OfStep cause) = CanBeTold cause
ReasonCanBeTold (NotBelow scene left right) = IsFilledScene scene.context left
ReasonCanBeTold (WithCap locals set) = Unit {0}

-- The reason for which a definition that fits the globals is refused can be told.
abbrev pub ReasonsCanBeTold : Type 0
ReasonsCanBeTold =
    (devices : ℕ) (globals : Context) (definition : Definition) (binders : BinderNames) (reason : DefinitionReason)
    (at : Place)
    → Fits globals definition → HolesAreOfParameters definition.right
    → HasReason devices globals definition binders reason at → ReasonCanBeTold reason

-- So can that of the first of a module's definitions that is refused.
abbrev pub FirstReasonsCanBeTold : Type 0
FirstReasonsCanBeTold =
    (devices : ℕ) (context : Context) (names : List Name) (definitions : List CoreDefinition)
    (binders : List BinderNames) (reason : DefinitionReason) (at : Place) (inside : List Name)
    → AreReady context definitions
    → IsRefusedFirst devices context names definitions binders reason at inside → ReasonCanBeTold reason
