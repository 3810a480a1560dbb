-- What a definition is refused for can be told.
use Rattle.std.proofs.Common.{◌≡◌, inl, inr, ℕ, List, [], length, refl, sym, ap, subst, ◌∙◌}
use Rattle.cc_base.specs.declared.place.Place.{Place}
use Rattle.cc_core.specs.Contexts.{Context}
use Rattle.cc_core.specs.Holes.{HolesAreOfParameters}
use Rattle.cc_core.specs.Shapes.{Shape}
use Rattle.cc_core.specs.WellFormed.{kinds_of}
use Rattle.cc_core.proofs.KindFacts.{IsKinded-test}
use Rattle.cc_checking.specs.Comparison.{IsMismatch}
use Rattle.cc_checking.specs.Fillings.{Filling, IsOverGlobals}
use Rattle.cc_checking.specs.Inference.{limited}
use Rattle.cc_checking.specs.Outcomes.{Asked, IsBelow, IsCapless}
use Rattle.cc_checking.specs.Verdicts.{Definition, Checking, checked}
use Rattle.cc_typing_laws.proofs.FormedContexts.{IsKindedContext-test}
use Rattle.cc_checking_laws.specs.CheckingLaws.{Fits}
use Rattle.cc_checking_laws.specs.FillingLaws.{AreGlobals, IsFit}
use Rattle.cc_checking_laws.proofs.FitDemands.{asked_is_fit}
use Rattle.cc_checking_laws.proofs.LeastFillings.{least_over_globals}
use Rattle.cc_mnf.specs.ElaboratedModules.{CoreDefinition}
use Rattle.cc_mnf.specs.Scopes.{Name}
use Rattle.cc_verdicts.specs.ModuleVerdicts.{to_be_checked}
use Rattle.cc_verdicts.specs.ReadyDefinitions.{AreReady}
use Rattle.cc_verdicts.proofs.JudgedDefinitions.{first_fits, ready_more}
use Rattle.cc_reasons.specs.Causes.{Local, Cause, WrongHead, WrongType, WrongShape, NothingThere, Unavoidable, TooLarge, Explained, NoAnswer, Refused, Found, outcome_of}
use Rattle.cc_reasons.specs.DefinitionReasons.{DefinitionReason, unsigned_cause, explained_definition, unserved, placed_of, Tells}
use Rattle.cc_reasons.specs.ExplainedInference.{BinderNames}
use Rattle.cc_reasons.specs.ReasonTexts.{IsCompared}
use Rattle.cc_reasons.specs.RefusedDefinitions.{first_binders, IsRefusedFirst}
use Rattle.cc_reasons.specs.RefusedDefinitions.IsRefusedFirst.{refused_first, accepted_first}
use Rattle.cc_reasons.proofs.ComparedCauses.{Compares, compares_definition, unsigned_compared}
use Rattle.cc_reasons.proofs.DefinitionOutcomes.{explained_definitions_are_checked, placed_parts}
use Rattle.cc_captured_reasons.proofs.FilledDemands.{filled_demands_are_scenes}
use Rattle.cc_cause_texts.specs.CauseLines.{DoNotMatch, CanBeTold}
use Rattle.cc_reason_lines.specs.ReasonLines.{ReasonCanBeTold, ReasonsCanBeTold, FirstReasonsCanBeTold}
use Rattle.cc_reason_lines.proofs.FormedCauses.{AreFormed, IsFormed, Forms, forms_definition, unsigned_formed}

apart : (g : Context) (found wanted : Shape) → AreFormed g found wanted → IsMismatch g found wanted → DoNotMatch g found wanted
apart g found wanted f m = (IsKindedContext-test g f.0, IsKinded-test (kinds_of g) [] found f.1, IsKinded-test (kinds_of g) [] wanted f.2, m)

cause_told : (n : ℕ) (cause : Cause) → IsFormed cause → IsCompared n cause → CanBeTold cause
cause_told n (WrongHead scene found wanted) f c = tt
cause_told n (WrongType scene found wanted) f c = apart scene.context found.shape wanted.shape f (n, c)
cause_told n (WrongShape scene found wanted) f c = apart scene.context found wanted f (n, c)
cause_told n NothingThere f c = tt
cause_told n (Unavoidable scene position type) f c = tt
cause_told n (TooLarge scene type) f c = tt

unserved_told : (globals : Context) → AreGlobals globals → (f : Filling) → IsOverGlobals (length globals) f → (locals : List Local) (asked : Asked)
    → IsFit globals asked → ReasonCanBeTold (unserved f locals asked)
unserved_told globals alone f over locals (IsBelow d) fit = filled_demands_are_scenes globals f d alone over fit
unserved_told globals alone f over locals (IsCapless c) fit = tt

module _ (devices : ℕ) (globals : Context) (definition : Definition) (fits : Fits globals definition) (holes : HolesAreOfParameters definition.right) where
  outcome_told : (n : ℕ) (o : Explained Checking) (reason : DefinitionReason) (at : Place) → Compares n o → Forms o
      → outcome_of o ≡ checked (limited n) devices globals definition → Tells devices globals definition o reason at → ReasonCanBeTold reason
  outcome_told n NoAnswer reason at compares forms is tells = absurd tells
  outcome_told n (Refused cause place) reason at compares forms is (same, there) = subst ReasonCanBeTold (sym same) (cause_told n cause forms compares)
  outcome_told n (Found found asked) reason at compares forms is (f, least, inl (failing, fails, same, there)) =
      let fit = asked_is_fit devices globals definition found (placed_of asked) fits holes (n, sym is, λ e. cc) in
      subst ReasonCanBeTold (sym same)
      (unserved_told globals fits.globals_alone f (least_over_globals (length globals) (placed_of asked) f least) failing.locals failing.placed.asked
      (fit.each failing.placed.asked
      (placed_of fails.before, failing.placed, placed_of fails.after, ap placed_of fails.stands ∙ placed_parts fails.before failing fails.after, refl)))
  outcome_told n (Found found asked) reason at compares forms is (f, least, inr (served, unsigned, same, there)) =
      subst ReasonCanBeTold (sym same) (cause_told n (unsigned_cause globals _) (unsigned_formed globals _) (unsigned_compared n globals _))

pub reasons_can_be_told : ReasonsCanBeTold
reasons_can_be_told devices globals definition binders reason at fits holes (n, tells) =
    outcome_told devices globals definition fits holes n (explained_definition (limited n) devices globals definition binders) reason at
    (compares_definition n devices globals definition binders) (forms_definition n devices globals definition binders fits)
    (explained_definitions_are_checked (limited n) devices globals definition binders) tells

first_told : (devices : ℕ) {context : Context} {names : List Name} {list : List CoreDefinition} {binders : List BinderNames} {reason : DefinitionReason} {at : Place} {inside : List Name}
    → AreReady context list → IsRefusedFirst devices context names list binders reason at inside → ReasonCanBeTold reason
first_told devices {context = context} {binders = binders} {reason = reason} {at = at} ready (refused_first {first = first} {rest = rest} has) =
    reasons_can_be_told devices context (to_be_checked first) (first_binders binders) reason at (first_fits context first rest ready) ready.each.0.holes has
first_told devices {context = context} ready (accepted_first {first = first} {rest = rest} {accepted = accepted} has behind) =
    first_told devices (ready_more devices context first rest accepted ready has) behind

pub first_reasons_can_be_told : FirstReasonsCanBeTold
first_reasons_can_be_told devices context names definitions binders reason at inside ready refused = first_told devices ready refused
