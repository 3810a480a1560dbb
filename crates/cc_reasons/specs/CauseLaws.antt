-- Reasons and verdicts belong together.
use Rattle.std.specs.Prelude.{◌≡◌, ℕ}
use Rattle.cc_base.specs.declared.code.Code.{Code}
use Rattle.cc_base.specs.declared.place.Place.{Place}
use Rattle.cc_core.specs.Terms.{Term}
use Rattle.cc_core.specs.Contexts.{Context}
use Rattle.cc_core.specs.Places.{Places}
use Rattle.cc_checking.specs.Inference.{Ways, inferred}
use Rattle.cc_checking.specs.Verdicts.{Definition, IsRefused, checked, HasVerdict}
use Rattle.cc_reasons.specs.Causes.{Scene, outcome_of}
use Rattle.cc_reasons.specs.DefinitionReasons.{DefinitionReason, code_of_reason, explained_definition, HasReason}
use Rattle.cc_reasons.specs.ExplainedInference.{BinderNames, explained}

-- Inference that tells why comes to the outcome of inference, whatever the names: with the code of its cause where it refuses,
-- and with all that is asked, in order.
abbrev pub ExplainedInferenceIsInference : Type 0
ExplainedInferenceIsInference =
    (ways : Ways) (root : ℕ) (scene : Scene) (term : Term) (places : Places) (names : BinderNames)
    → outcome_of (explained ways root scene term places names) ≡ inferred ways root scene.context term places

-- the same of a definition
abbrev pub ExplainedDefinitionsAreChecked : Type 0
ExplainedDefinitionsAreChecked =
    (ways : Ways) (devices : ℕ) (globals : Context) (definition : Definition) (names : BinderNames)
    → outcome_of (explained_definition ways devices globals definition names) ≡ checked ways devices globals definition

-- What has a reason is refused, with its code and at its place.
abbrev pub ReasonsAreOfRefusals : Type 0
ReasonsAreOfRefusals =
    (devices : ℕ) (globals : Context) (definition : Definition) (names : BinderNames) (reason : DefinitionReason)
    (at : Place)
    → HasReason devices globals definition names reason at
    → HasVerdict devices globals definition (IsRefused (code_of_reason reason) at)

-- What is refused has a reason with that code, at that place.
abbrev pub RefusalsHaveAReason : Type 0
RefusalsHaveAReason =
    (devices : ℕ) (globals : Context) (definition : Definition) (names : BinderNames) (code : Code) (at : Place)
    → HasVerdict devices globals definition (IsRefused code at)
    → (reason : DefinitionReason) × (code ≡ code_of_reason reason) × HasReason devices globals definition names reason at

-- And it has one alone.
abbrev pub ReasonsAreUnique : Type 0
ReasonsAreUnique =
    (devices : ℕ) (globals : Context) (definition : Definition) (names : BinderNames) (one other : DefinitionReason)
    (at place : Place)
    → HasReason devices globals definition names one at → HasReason devices globals definition names other place
    → (one ≡ other) × (at ≡ place)
