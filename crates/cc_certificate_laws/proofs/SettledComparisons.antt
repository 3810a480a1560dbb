-- The claims of a valid comparison whose sides are well formed are well formed at their places.
use Rattle.std.proofs.Common.{◌≡◌, ℕ, suc, List, [], ◌∷◌, refl, sym, ap, subst, ◌∙◌}
use Rattle.std.specs.List.{AllByRecursion}
use Rattle.cc_capture.specs.declared.var.Elem.{Elem}
use Rattle.cc_capture.specs.Sets.{Set}
use Rattle.cc_core.specs.Shapes.{Shape}
use Rattle.cc_core.specs.Contexts.{TermEntry, TypeEntry, Context}
use Rattle.cc_core.specs.WellFormed.{kinds_of}
use Rattle.cc_core.specs.Derivations.{ByElement, ByVariable, BySet, ByReflexivity, ByTransitivity, ByTypeVariable, ByTop, ByFunction, ByTypeFunction, ByBox, ByCapturing, ShapeBelow, Derivation, Premises, Node, NoPremise, Premise, one, two, conclusion, IsValidComparison, AreBelow}
use Rattle.cc_core.proofs.KindFacts.{IsKinded, IsKindedSet, IsKindedElement}
use Rattle.cc_core.proofs.SubcapturingContexts.{entry_kinded}
use Rattle.cc_core.proofs.Sorts.{SetSort, ShapeSort}
use Rattle.cc_typing_laws.proofs.FormedContexts.{opened_kinded, kinded_single}
use Rattle.cc_certificate_judging.specs.Judging.{under_binder}
use Rattle.cc_core.proofs.SubcapturingContexts.{IsKindedContext}
use Rattle.cc_certificate_laws.specs.CertificateLaws.{IsOfBound, IsFinished, AreFinished}
use Rattle.cc_certificate_laws.proofs.Places.{KindedClaim}
use Rattle.cc_certificate_laws.proofs.PresentableComparisons.{element_kinds}
use Rattle.cc_certificate_laws.proofs.Settled.{plus_binder, IsSettled, AreSettled, no_binder}

-- what stands between two comparisons at a bound is well formed
bound_kinded : (p : Derivation) (g : Context) (left middle : Shape) → IsKindedContext g → IsOfBound p
    → IsValidComparison g p → conclusion p ≡ ShapeBelow left middle → IsKinded (kinds_of g) [] middle
bound_kinded (Node ByTypeVariable NoPremise claim) g left middle place by valid is =
    let entry : IsKinded (kinds_of g) [] valid.1 = entry_kinded g valid.0 (TypeEntry valid.1) place valid.2 in
    right_side (sym valid.3 ∙ is) entry
  where
    right_side : {a b c d : Shape} → ShapeBelow a b ≡ ShapeBelow c d → IsKinded (kinds_of g) [] b → IsKinded (kinds_of g) [] d
    right_side {b = b} {d = d} e k = subst (IsKinded (kinds_of g) []) (let same : b ≡ d = cc in same) k
bound_kinded (Node ByTypeVariable (Premise first rest) claim) g left middle place by valid is = absurd valid
bound_kinded _ g left middle place by valid is = absurd by

mutual
  pub comparison_settled : (d : Derivation) (g : Context) (locals : ℕ) → IsKindedContext g → IsValidComparison g d
      → KindedClaim g (conclusion d) → IsFinished d → IsSettled locals (kinds_of g) d
  comparison_settled (Node ByElement NoPremise claim) g locals place valid is done =
      (is, done.0, tt)
  comparison_settled (Node ByVariable (one p) claim) g locals place valid is done =
      let entry = entry_kinded g valid.0 (TermEntry valid.1 valid.2) place valid.4 in
      let sides = subst (KindedClaim g) valid.7 is in (
        is,
        done.0,
        (refl, comparison_settled p g locals place valid.5 (subst (KindedClaim g) (sym valid.6) (entry.1, sides.1)) done.3.0, tt),
      )
  comparison_settled (Node BySet premises claim) g locals place valid is done =
      let sides = subst (KindedClaim g) valid.3 is in (
        is,
        done.0,
        elements_settled premises g locals 0 valid.0.list valid.1 place valid.2 (element_kinds g valid.0 sides.0) sides.1 done.3,
      )
  comparison_settled (Node ByReflexivity NoPremise claim) g locals place valid is done =
      (is, done.0, tt)
  comparison_settled (Node ByTransitivity (two p q) claim) g locals place valid is done =
      let sides = subst (KindedClaim g) valid.7 is in
      let middle = bound_kinded p g valid.0 valid.1 place done.2 valid.3 valid.4 in (
        is,
        done.0,
        (
          refl,
          comparison_settled p g locals place valid.3 (subst (KindedClaim g) (sym valid.4) (sides.0, middle)) done.3.0,
          (refl, comparison_settled q g locals place valid.5 (subst (KindedClaim g) (sym valid.6) (middle, sides.1)) done.3.1.0, tt),
        ),
      )
  comparison_settled (Node ByTypeVariable NoPremise claim) g locals place valid is done =
      (is, done.0, tt)
  comparison_settled (Node ByTop NoPremise claim) g locals place valid is done =
      (is, done.0, tt)
  comparison_settled (Node ByFunction (two p q) claim) g locals place valid is done =
      let sides = subst (KindedClaim g) valid.12 is in
      let entry = TermEntry valid.4 valid.5 in (
        is,
        done.0,
        (
          refl,
          comparison_settled p g locals place valid.8
              (subst (KindedClaim g) (sym valid.9) ((sides.1.0, sides.1.1), (sides.0.0, sides.0.1))) done.3.0,
          (
            refl,
            comparison_settled q (entry ∷ g) (suc locals) ((sides.1.0, sides.1.1), place) valid.10
                (subst (KindedClaim (entry ∷ g)) (sym valid.11) (
                  (opened_kinded ShapeSort g entry valid.2 sides.0.2, opened_kinded SetSort g entry valid.3 sides.0.3),
                  (opened_kinded ShapeSort g entry valid.6 sides.1.2, opened_kinded SetSort g entry valid.7 sides.1.3),
                )) done.3.1.0,
            tt,
          ),
        ),
      )
  comparison_settled (Node ByTypeFunction (two p q) claim) g locals place valid is done =
      let sides = subst (KindedClaim g) valid.9 is in
      let entry = TypeEntry valid.0 in (
        is,
        done.0,
        (
          refl,
          comparison_settled p g locals place valid.5 (subst (KindedClaim g) (sym valid.6) (sides.0.0, sides.1.0)) done.3.0,
          (
            refl,
            comparison_settled q (entry ∷ g) (suc locals) (sides.0.0, place) valid.7
                (subst (KindedClaim (entry ∷ g)) (sym valid.8) (
                  (opened_kinded ShapeSort g entry valid.1 sides.0.1, opened_kinded SetSort g entry valid.2 sides.0.2),
                  (opened_kinded ShapeSort g entry valid.3 sides.1.1, opened_kinded SetSort g entry valid.4 sides.1.2),
                )) done.3.1.0,
            tt,
          ),
        ),
      )
  comparison_settled (Node ByBox (one p) claim) g locals place valid is done =
      let sides = subst (KindedClaim g) valid.6 is in (
        is,
        done.0,
        (
          refl,
          comparison_settled p g locals place valid.4
              (subst (KindedClaim g) (sym valid.5) ((sides.0.0, sides.0.1), (sides.1.0, sides.1.1))) done.3.0,
          tt,
        ),
      )
  comparison_settled (Node ByCapturing (two p q) claim) g locals place valid is done =
      let sides = subst (KindedClaim g) valid.6 is in (
        is,
        done.0,
        (
          refl,
          comparison_settled p g locals place valid.2 (subst (KindedClaim g) (sym valid.3) (sides.0.1, sides.1.1)) done.3.0,
          (refl, comparison_settled q g locals place valid.4 (subst (KindedClaim g) (sym valid.5) (sides.0.0, sides.1.0)) done.3.1.0, tt),
        ),
      )
  comparison_settled _ g locals place valid is done = absurd valid

  elements_settled : (ps : Premises) (g : Context) (locals index : ℕ) (elements : List Elem) (right : Set) → IsKindedContext g
      → AreBelow g elements right ps → AllByRecursion (IsKindedElement (kinds_of g) []) elements
      → IsKindedSet (kinds_of g) [] right → AreFinished ps → AreSettled locals (kinds_of g) BySet index locals locals ps
  elements_settled NoPremise g locals index elements right place below all is done = tt
  elements_settled (Premise p rest) g locals index (e ∷ elements) right place below all is done =
      let none = no_binder index in (
        ap (λ o. plus_binder o locals) (sym none),
        subst (λ o. IsSettled locals (under_binder o (kinds_of g)) p) (sym none)
            (comparison_settled p g locals place below.0
            (subst (KindedClaim g) (sym below.1) (kinded_single (kinds_of g) [] e all.0, is)) done.0),
        elements_settled rest g locals (suc index) elements right place below.2 all.1 is done.1,
      )
  elements_settled _ g locals index _ right place below all is done = absurd below
