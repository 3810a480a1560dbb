-- What a definition is refused for can be told.
use Rattle.std.proofs.Common.{◌≡◌, inl, inr, ℕ, List, [], ◌∷◌, ◌++◌, length, refl, sym, ap, subst, ◌∙◌}
use Rattle.std.specs.Prelude.{codes}
use Rattle.cc_base.specs.declared.place.Place.{Place}
use Rattle.cc_capture.specs.declared.var.Elem.{Elem}
use Rattle.cc_capture.specs.declared.var.Elem.TheVariants.{Var as Variable, Cap, Hole}
use Rattle.cc_capture.specs.Sets.{Set, Member}
use Rattle.cc_core.specs.Contexts.{Context}
use Rattle.cc_core.specs.Holes.{HolesAreOfParameters}
use Rattle.cc_core.specs.Substitution.{filled_element, filled_set}
use Rattle.cc_core.specs.WellFormed.{kinds_of}
use Rattle.cc_core.proofs.KindFacts.{IsKindedSet, IsKindedSet-from}
use Rattle.cc_core.proofs.Moving.{Member-single}
use Rattle.cc_core.proofs.Sorts.{SetSort}
use Rattle.cc_core.proofs.SubcapturingContexts.{IsKindedContext, IsKindedContext-from}
use Rattle.cc_checking.specs.Fillings.{Filling, filled_context, IsLeast, IsOverGlobals}
use Rattle.cc_checking.specs.Inference.{limited}
use Rattle.cc_checking.specs.Outcomes.{Asked, IsBelow, IsCapless, Placed}
use Rattle.cc_checking.specs.Verdicts.{Definition, Checking, checked}
use Rattle.cc_checking_laws.specs.CheckingLaws.{Fits}
use Rattle.cc_checking_laws.specs.FillingLaws.{AreGlobals, IsFit}
use Rattle.cc_checking_laws.proofs.FitDemands.{asked_is_fit}
use Rattle.cc_checking_laws.proofs.LeastFillings.{Member-from_filled, lookup-from_filled, comes_global}
use Rattle.cc_checking_laws.proofs.ServedDemands.{fill_kept, filled_context_kinded}
use Rattle.cc_mnf.specs.Scopes.{Name}
use Rattle.cc_reasons.specs.Causes.{Local, Cause, Explained, NoAnswer, Refused, Found, outcome_of}
use Rattle.cc_reasons.specs.DefinitionReasons.{DefinitionReason, OfStep, explained_definition, unserved, placed_of, Tells}
use Rattle.cc_reasons.specs.LineLaws.{ReasonsHaveLines}
use Rattle.cc_reasons.specs.ReasonTexts.{with_locals, set_there, cause_lines, spaced, IsCompared, AreLines}
use Rattle.cc_reasons.proofs.ChainsToEnds.{HasNoHoles, Chained, chained}
use Rattle.cc_reasons.proofs.ComparedCauses.{Compares, compares_definition, unsigned_compared}
use Rattle.cc_reasons.proofs.DefinitionOutcomes.{explained_definitions_are_checked, placed_parts}

-- what can be told of a reason
abbrev pub IsTold : ℕ → List Name → DefinitionReason → Type 0
IsTold devices names reason = (lines : List (List ℕ)) × AreLines devices names reason lines

step_told : (devices : ℕ) (names : List Name) (n : ℕ) (cause : Cause) → IsCompared n cause → IsTold devices names (OfStep cause)
step_told devices names n cause compared = (cause_lines n names cause, (n, compared, refl))

-- what is filled over the globals has no hole
pub no_hole_filled : (root : ℕ) (f : Filling) → IsOverGlobals root f → (c : Set) (n : ℕ) → Member (Hole n) (filled_set f c) → ⊥
no_hole_filled root f over c n here = let from = Member-from_filled f (Hole n) c here in by from.0 from.2
  where
    by : (x : Elem) → Member (Hole n) (filled_element f x) → ⊥
    by (Variable v) m = let same = Member-single (Hole n) (Variable v) m in cc
    by Cap m = let same = Member-single (Hole n) Cap m in cc
    by (Hole h) m = over h (Hole n) m

pub no_holes_filled : (root : ℕ) (f : Filling) → IsOverGlobals root f → (g : Context) → HasNoHoles (filled_context f g)
no_holes_filled root f over g p s d there n here =
    let found = lookup-from_filled f g p s d there in
    no_hole_filled root f over found.1 n (subst (λ (c : Set). Member (Hole n) c) found.3 here)

least_over : (root : ℕ) (list : List Placed) (f : Filling) → IsLeast root list f → IsOverGlobals root f
least_over root list f least hole e here = comes_global ((least hole e).0 here)

module _ (devices : ℕ) (names : List Name) (globals : Context) (alone : AreGlobals globals) (f : Filling) (over : IsOverGlobals (length globals) f) where
  filled_chained : (g later : Context) → g ≡ later ++ globals → IsKindedContext g → (left right : Set) → IsKindedSet (kinds_of g) [] left
      → (locals : List Local) → Chained devices (with_locals names locals) (filled_context f g) (filled_set f left) (filled_set f right)
  filled_chained g later is formed left right kinded locals =
      chained devices (with_locals names locals) (filled_context f g) (filled_set f left) (filled_set f right)
      (subst (λ h. IsKindedContext (filled_context f h)) (sym is) (filled_context_kinded globals alone f over later (subst IsKindedContext is formed)))
      (no_holes_filled (length globals) f over g)
      (λ e here. (
        subst (λ h. IsKindedSet (kinds_of (filled_context f h)) [] (filled_set f left)) (sym is)
            (fill_kept globals alone f over later SetSort left (subst (λ h. IsKindedSet (kinds_of h) [] left) is kinded)) e here,
        λ n same. no_hole_filled (length globals) f over left n (subst (λ (x : Elem). Member x (filled_set f left)) same here),
      ))

  unserved_told : (locals : List Local) (asked : Asked) → IsFit globals asked → IsTold devices names (unserved f locals asked)
  unserved_told locals (IsBelow d) fit =
      let it = filled_chained d.context fit.0.0 fit.0.1 (IsKindedContext-from d.context fit.1) d.left d.right (IsKindedSet-from (kinds_of d.context) [] d.left fit.2) locals in (
        (codes "captured" ++ spaced (with_locals names locals) (filled_context f d.context) it.captured)
            ∷ (codes "allowed " ++ set_there (with_locals names locals) (filled_context f d.context) (filled_set f d.right)) ∷ it.chains,
        (it.captured, it.entry, it.chains, it.beyond, it.leads, it.are, refl),
      )
  unserved_told locals (IsCapless c) fit = (_, refl)

module _ (devices : ℕ) (globals : Context) (definition : Definition) (names : List Name) (fits : Fits globals definition) (holes : HolesAreOfParameters definition.right) where
  outcome_told : (n : ℕ) (o : Explained Checking) (reason : DefinitionReason) (at : Place) → Compares n o
      → outcome_of o ≡ checked (limited n) devices globals definition → Tells devices globals definition o reason at → IsTold devices names reason
  outcome_told n NoAnswer reason at compares is tells = absurd tells
  outcome_told n (Refused cause place) reason at compares is (same, there) = subst (IsTold devices names) (sym same) (step_told devices names n cause compares)
  outcome_told n (Found found asked) reason at compares is (f, least, inl (failing, fails, same, there)) =
      let fit = asked_is_fit devices globals definition found (placed_of asked) fits holes (n, sym is, λ e. cc) in
      subst (IsTold devices names) (sym same)
      (unserved_told devices names globals fits.globals_alone f (least_over (length globals) (placed_of asked) f least) failing.locals failing.placed.asked
      (fit.each failing.placed.asked
      (placed_of fails.before, failing.placed, placed_of fails.after, ap placed_of fails.stands ∙ placed_parts fails.before failing fails.after, refl)))
  outcome_told n (Found found asked) reason at compares is (f, least, inr (served, unsigned, same, there)) =
      subst (IsTold devices names) (sym same) (step_told devices names n _ (unsigned_compared n globals _))

pub reasons_have_lines : ReasonsHaveLines
reasons_have_lines devices globals definition binders reason at names fits holes (n, tells) =
    outcome_told devices globals definition names fits holes n (explained_definition (limited n) devices globals definition binders) reason at
    (compares_definition n devices globals definition binders) (explained_definitions_are_checked (limited n) devices globals definition binders) tells
