-- Where holes are filled over the globals, demands that are fit have contexts and sets without holes.
use Rattle.std.proofs.Common.{ℕ, [], length, sym, subst}
use Rattle.cc_capture.specs.declared.var.Elem.TheVariants.{Var as Variable, Cap, Hole}
use Rattle.cc_capture.specs.Sets.{Set, Member}
use Rattle.cc_core.specs.Occurrences.{HasNoHoleInSet}
use Rattle.cc_core.specs.Substitution.{filled_set}
use Rattle.cc_core.specs.WellFormed.{kinds_of}
use Rattle.cc_core.proofs.KindFacts.{IsKindedSet, IsKindedSet-from, IsKindedSet-test}
use Rattle.cc_core.proofs.Sorts.{SetSort}
use Rattle.cc_core.proofs.SubcapturingContexts.{IsKindedContext, IsKindedContext-from}
use Rattle.cc_typing_laws.proofs.FormedContexts.{IsKindedContext-test}
use Rattle.cc_checking.specs.Fillings.{filled_context}
use Rattle.cc_checking_laws.proofs.ServedDemands.{fill_kept, filled_context_kinded}
use Rattle.cc_reasons.proofs.ToldReasons.{no_hole_filled, no_holes_filled}
use Rattle.cc_captured_reasons.specs.FilledScenes.{FilledDemandsAreScenes}

-- a set that has no hole as a member has none
closed_set : (set : Set) → ((n : ℕ) → Member (Hole n) set → ⊥) → HasNoHoleInSet set
closed_set set none (Variable v) here = tt
closed_set set none Cap here = tt
closed_set set none (Hole n) here = none n here

pub filled_demands_are_scenes : FilledDemandsAreScenes
filled_demands_are_scenes globals f d alone over fit =
    let later = fit.0.0 in
    let is = fit.0.1 in
    let formed : IsKindedContext (filled_context f d.context) =
    subst (λ h. IsKindedContext (filled_context f h)) (sym is)
    (filled_context_kinded globals alone f over later (subst IsKindedContext is (IsKindedContext-from d.context fit.1))) in
    let kinded : IsKindedSet (kinds_of (filled_context f d.context)) [] (filled_set f d.left) =
    subst (λ h. IsKindedSet (kinds_of (filled_context f h)) [] (filled_set f d.left)) (sym is)
    (fill_kept globals alone f over later SetSort d.left (subst (λ h. IsKindedSet (kinds_of h) [] d.left) is (IsKindedSet-from (kinds_of d.context) [] d.left fit.2))) in
    record {
      formed = IsKindedContext-test (filled_context f d.context) formed;
      closed = λ p s declared there. closed_set declared (λ n here. no_holes_filled (length globals) f over d.context p s declared there n here);
      left_formed = IsKindedSet-test (kinds_of (filled_context f d.context)) [] (filled_set f d.left) kinded;
      left_closed = closed_set (filled_set f d.left) (λ n here. no_hole_filled (length globals) f over d.left n here);
    }
