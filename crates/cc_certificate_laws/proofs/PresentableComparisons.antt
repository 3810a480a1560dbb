-- The claims of a valid comparison whose sides are well formed are closed at their places.
use Rattle.std.proofs.Common.{◌≡◌, ℕ, suc, List, [], ◌∷◌, refl, sym, ap, subst, ◌∙◌}
use Rattle.std.specs.List.{AllByRecursion}
use Rattle.cc_capture.specs.declared.var.Elem.{Elem}
use Rattle.cc_capture.specs.Sets.{Set, contains}
use Rattle.cc_core.specs.Shapes.{Shape}
use Rattle.cc_core.specs.Contexts.{TermEntry, TypeEntry, Context}
use Rattle.cc_core.specs.WellFormed.{kinds_of}
use Rattle.cc_core.specs.Derivations.{Rule, ByElement, ByVariable, BySet, ByReflexivity, ByTransitivity, ByTypeVariable, ByTop, ByFunction, ByTypeFunction, ByBox, ByCapturing, Claim, ShapeBelow, Derivation, Premises, Node, NoPremise, Premise, one, two, conclusion, IsValidComparison, AreBelow}
use Rattle.cc_core.proofs.KindFacts.{IsKinded, IsKindedSet, IsKindedElement}
use Rattle.cc_core.proofs.SubcapturingContexts.{entry_kinded}
use Rattle.cc_core.proofs.Sorts.{SetSort, ShapeSort}
use Rattle.cc_typing_laws.proofs.FormedContexts.{opened_kinded, kinded_single}
use Rattle.cc_certificate_text.specs.Certificates.{rule_kind, claim_kind}
use Rattle.cc_certificate_text.proofs.SetOrders.{listed_all}
use Rattle.cc_certificate_laws.specs.CertificateLaws.{IsPresentable, ArePresentable, IsOfBound, IsFinished, AreFinished}
use Rattle.cc_certificate_laws.proofs.Places.{IsPlace, deeper_place, KindedClaim, claim_closed}

pub element_kinds : (g : Context) (set : Set) → IsKindedSet (kinds_of g) [] set → AllByRecursion (IsKindedElement (kinds_of g) []) set.list
unfolding contains
element_kinds g set is = listed_all (IsKindedElement (kinds_of g) []) set.list is

-- what stands between two comparisons at a bound is well formed
bound_kinded : (p : Derivation) (g : Context) (left middle : Shape) {names locals : ℕ} → IsPlace names locals g → IsOfBound p
    → IsValidComparison g p → conclusion p ≡ ShapeBelow left middle → IsKinded (kinds_of g) [] middle
bound_kinded (Node ByTypeVariable NoPremise claim) g left middle place by valid is =
    let entry : IsKinded (kinds_of g) [] valid.1 = entry_kinded g valid.0 (TypeEntry valid.1) place.formed valid.2 in
    right_side (sym valid.3 ∙ is) entry
  where
    right_side : {a b c d : Shape} → ShapeBelow a b ≡ ShapeBelow c d → IsKinded (kinds_of g) [] b → IsKinded (kinds_of g) [] d
    right_side {b = b} {d = d} e k = subst (IsKinded (kinds_of g) []) (let same : b ≡ d = cc in same) k
bound_kinded (Node ByTypeVariable (Premise first rest) claim) g left middle place by valid is = absurd valid
bound_kinded _ g left middle place by valid is = absurd by

kind_from : (rule : Rule) {claim claim' : Claim} → claim ≡ claim' → rule_kind rule ≡ claim_kind claim' → rule_kind rule ≡ claim_kind claim
kind_from rule same kind = kind ∙ sym (ap claim_kind same)

module _ (names : ℕ) where
  mutual
    pub comparison_presentable : (d : Derivation) (g : Context) (locals : ℕ) → IsPlace names locals g → IsValidComparison g d
        → KindedClaim g (conclusion d) → IsFinished d → IsPresentable names locals d
    comparison_presentable (Node ByElement NoPremise claim) g locals place valid is done =
        (kind_from ByElement valid.3 refl, claim_closed place claim is done.0, done.1, tt)
    comparison_presentable (Node ByVariable (one p) claim) g locals place valid is done =
        let entry = entry_kinded g valid.0 (TermEntry valid.1 valid.2) place.formed valid.4 in
        let sides = subst (KindedClaim g) valid.7 is in (
          kind_from ByVariable valid.7 refl,
          claim_closed place claim is done.0,
          done.1,
          (comparison_presentable p g locals place valid.5 (subst (KindedClaim g) (sym valid.6) (entry.1, sides.1)) done.3.0, tt),
        )
    comparison_presentable (Node BySet premises claim) g locals place valid is done =
        let sides = subst (KindedClaim g) valid.3 is in (
          kind_from BySet valid.3 refl,
          claim_closed place claim is done.0,
          done.1,
          elements_presentable premises g locals valid.0.list valid.1 place valid.2 (element_kinds g valid.0 sides.0) sides.1 done.3,
        )
    comparison_presentable (Node ByReflexivity NoPremise claim) g locals place valid is done =
        (kind_from ByReflexivity valid.1 refl, claim_closed place claim is done.0, done.1, tt)
    comparison_presentable (Node ByTransitivity (two p q) claim) g locals place valid is done =
        let sides = subst (KindedClaim g) valid.7 is in
        let middle = bound_kinded p g valid.0 valid.1 place done.2 valid.3 valid.4 in (
          kind_from ByTransitivity valid.7 refl,
          claim_closed place claim is done.0,
          done.1,
          (
            comparison_presentable p g locals place valid.3 (subst (KindedClaim g) (sym valid.4) (sides.0, middle)) done.3.0,
            (comparison_presentable q g locals place valid.5 (subst (KindedClaim g) (sym valid.6) (middle, sides.1)) done.3.1.0, tt),
          ),
        )
    comparison_presentable (Node ByTypeVariable NoPremise claim) g locals place valid is done =
        (kind_from ByTypeVariable valid.3 refl, claim_closed place claim is done.0, done.1, tt)
    comparison_presentable (Node ByTop NoPremise claim) g locals place valid is done =
        (kind_from ByTop valid.1 refl, claim_closed place claim is done.0, done.1, tt)
    comparison_presentable (Node ByFunction (two p q) claim) g locals place valid is done =
        let sides = subst (KindedClaim g) valid.12 is in
        let entry = TermEntry valid.4 valid.5 in (
          kind_from ByFunction valid.12 refl,
          claim_closed place claim is done.0,
          done.1,
          (
            comparison_presentable p g locals place valid.8
                (subst (KindedClaim g) (sym valid.9) ((sides.1.0, sides.1.1), (sides.0.0, sides.0.1))) done.3.0,
            (
              comparison_presentable q (entry ∷ g) (suc locals) (deeper_place entry place (sides.1.0, sides.1.1)) valid.10
                  (subst (KindedClaim (entry ∷ g)) (sym valid.11) (
                    (opened_kinded ShapeSort g entry valid.2 sides.0.2, opened_kinded SetSort g entry valid.3 sides.0.3),
                    (opened_kinded ShapeSort g entry valid.6 sides.1.2, opened_kinded SetSort g entry valid.7 sides.1.3),
                  )) done.3.1.0,
              tt,
            ),
          ),
        )
    comparison_presentable (Node ByTypeFunction (two p q) claim) g locals place valid is done =
        let sides = subst (KindedClaim g) valid.9 is in
        let entry = TypeEntry valid.0 in (
          kind_from ByTypeFunction valid.9 refl,
          claim_closed place claim is done.0,
          done.1,
          (
            comparison_presentable p g locals place valid.5 (subst (KindedClaim g) (sym valid.6) (sides.0.0, sides.1.0)) done.3.0,
            (
              comparison_presentable q (entry ∷ g) (suc locals) (deeper_place entry place sides.0.0) valid.7
                  (subst (KindedClaim (entry ∷ g)) (sym valid.8) (
                    (opened_kinded ShapeSort g entry valid.1 sides.0.1, opened_kinded SetSort g entry valid.2 sides.0.2),
                    (opened_kinded ShapeSort g entry valid.3 sides.1.1, opened_kinded SetSort g entry valid.4 sides.1.2),
                  )) done.3.1.0,
              tt,
            ),
          ),
        )
    comparison_presentable (Node ByBox (one p) claim) g locals place valid is done =
        let sides = subst (KindedClaim g) valid.6 is in (
          kind_from ByBox valid.6 refl,
          claim_closed place claim is done.0,
          done.1,
          (
            comparison_presentable p g locals place valid.4
                (subst (KindedClaim g) (sym valid.5) ((sides.0.0, sides.0.1), (sides.1.0, sides.1.1))) done.3.0,
            tt,
          ),
        )
    comparison_presentable (Node ByCapturing (two p q) claim) g locals place valid is done =
        let sides = subst (KindedClaim g) valid.6 is in (
          kind_from ByCapturing valid.6 refl,
          claim_closed place claim is done.0,
          done.1,
          (
            comparison_presentable p g locals place valid.2 (subst (KindedClaim g) (sym valid.3) (sides.0.1, sides.1.1)) done.3.0,
            (comparison_presentable q g locals place valid.4 (subst (KindedClaim g) (sym valid.5) (sides.0.0, sides.1.0)) done.3.1.0, tt),
          ),
        )
    comparison_presentable _ g locals place valid is done = absurd valid

    elements_presentable : (ps : Premises) (g : Context) (locals : ℕ) (elements : List Elem) (right : Set) → IsPlace names locals g
        → AreBelow g elements right ps → AllByRecursion (IsKindedElement (kinds_of g) []) elements
        → IsKindedSet (kinds_of g) [] right → AreFinished ps → ArePresentable names locals locals ps
    elements_presentable NoPremise g locals elements right place below all is done = tt
    elements_presentable (Premise p rest) g locals (e ∷ elements) right place below all is done = (
      comparison_presentable p g locals place below.0
          (subst (KindedClaim g) (sym below.1) (kinded_single (kinds_of g) [] e all.0, is)) done.0,
      elements_presentable rest g locals elements right place below.2 all.1 is done.1,
    )
    elements_presentable _ g locals _ right place below all is done = absurd below
