-- What the program's causes stand for.
use Rattle.cc_elaboration_reasons.specs.ElaborationCauses as plain
use Rattle.cc_elaboration_reasons.specs.ElaborationCauses.{ExpressionForm, StrictPlace, ElaborationCause, ExplainedRefusal}
use Rattle.cc_elaboration_reasoning.specs.declared.refusal.ExpressionForm.{ExpressionForm as DeclaredForm}
use Rattle.cc_elaboration_reasoning.specs.declared.refusal.ExpressionForm.TheVariants as forms
use Rattle.cc_elaboration_reasoning.specs.declared.refusal.StrictPlace.{StrictPlace as DeclaredPlace}
use Rattle.cc_elaboration_reasoning.specs.declared.refusal.StrictPlace.TheVariants as places
use Rattle.cc_elaboration_reasoning.specs.declared.refusal.ElaborationCause.{ElaborationCause as DeclaredCause}
use Rattle.cc_elaboration_reasoning.specs.declared.refusal.ElaborationCause.TheVariants as causes
use Rattle.cc_elaboration_reasoning.specs.declared.refusal.ElaborationRefusal.{ElaborationRefusal}

-- the form of an expression
abbrev pub form_seen : DeclaredForm → ExpressionForm
form_seen forms.AName = plain.AName
form_seen forms.ALiteral = plain.ALiteral
form_seen forms.AVal = plain.AVal
form_seen forms.AFunction = plain.AFunction
form_seen forms.ATypeFunction = plain.ATypeFunction
form_seen forms.AChoice = plain.AChoice
form_seen forms.ABoundary = plain.ABoundary
form_seen forms.AnOperator = plain.AnOperator
form_seen forms.ABox = plain.ABox
form_seen forms.AnUnboxing = plain.AnUnboxing
form_seen forms.AnApplication = plain.AnApplication
form_seen forms.ATypeApplication = plain.ATypeApplication
form_seen forms.AnOperation = plain.AnOperation
form_seen forms.AnExit = plain.AnExit
form_seen forms.ARepetition = plain.ARepetition

-- where a set may not be omitted
abbrev pub strict_place_seen : DeclaredPlace → StrictPlace
strict_place_seen places.InBox = plain.InBox
strict_place_seen places.InParameter = plain.InParameter
strict_place_seen places.InResult = plain.InResult
strict_place_seen places.InTypeResult = plain.InTypeResult
strict_place_seen places.InExit = plain.InExit
strict_place_seen places.InRecursion = plain.InRecursion

-- why a module is refused
abbrev pub cause_seen : DeclaredCause → ElaborationCause
cause_seen (causes.Repeated name first) = plain.Repeated name first
cause_seen (causes.UnknownName name) = plain.UnknownName name
cause_seen (causes.UnknownType name) = plain.UnknownType name
cause_seen (causes.NotAValue form) = plain.NotAValue (form_seen form)
cause_seen (causes.OmittedSet around) = plain.OmittedSet (strict_place_seen around)

-- the refusal
abbrev pub refusal_seen : ElaborationRefusal → ExplainedRefusal
refusal_seen refusal = record { cause = cause_seen refusal.cause; at = refusal.at }
