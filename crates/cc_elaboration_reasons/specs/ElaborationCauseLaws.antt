-- Causes and refusals of elaboration belong together.
use Rattle.std.specs.Prelude.{◌≡◌, ◌↔◌, List, None}
use Rattle.cc_base.specs.declared.code.Code.{Code}
use Rattle.cc_base.specs.declared.place.Place.{Place}
use Rattle.cc_grammar.specs.Syntax.{ModuleSyntax}
use Rattle.cc_mnf.specs.ElaboratedModules.{IsRefused, elaboration}
use Rattle.cc_mnf.specs.NameLaws.{CanBeElaborated}
use Rattle.cc_mnf.specs.Scopes.{Name}
use Rattle.cc_elaboration_reasons.specs.ElaborationCauses.{ElaborationCause, code_of, refused}
use Rattle.cc_elaboration_reasons.specs.ElaborationCauses.{without_cause, refusal_of}
use Rattle.cc_elaboration_reasons.specs.ExplainedElaboration.{first_refusal}

-- The first refusal is that of elaboration: with its code and at its place, or there is none.
abbrev pub FirstRefusalIsOfElaboration : Type 0
FirstRefusalIsOfElaboration =
    (devices : List Name) (text : ModuleSyntax)
    → without_cause (first_refusal devices text) ≡ refusal_of (elaboration devices text)

-- What is refused for a cause is refused, with its code and at its place.
abbrev pub CausesAreOfRefusals : Type 0
CausesAreOfRefusals =
    (devices : List Name) (text : ModuleSyntax) (cause : ElaborationCause) (at : Place)
    → first_refusal devices text ≡ refused cause at → elaboration devices text ≡ IsRefused (code_of cause) at

-- What is refused has a cause with that code, at that place.
abbrev pub RefusalsHaveACause : Type 0
RefusalsHaveACause =
    (devices : List Name) (text : ModuleSyntax) (code : Code) (at : Place)
    → elaboration devices text ≡ IsRefused code at
    → (cause : ElaborationCause) × (code ≡ code_of cause) × (first_refusal devices text ≡ refused cause at)

-- And it has one alone.
abbrev pub CausesAreUnique : Type 0
CausesAreUnique =
    (devices : List Name) (text : ModuleSyntax) (one other : ElaborationCause) (at place : Place)
    → first_refusal devices text ≡ refused one at → first_refusal devices text ≡ refused other place
    → (one ≡ other) × (at ≡ place)

-- What has no cause is elaborated, and nothing else is.
abbrev pub ElaboratedModulesHaveNoCause : Type 0
ElaboratedModulesHaveNoCause =
    (devices : List Name) (text : ModuleSyntax) → first_refusal devices text ≡ None ↔ CanBeElaborated devices text
