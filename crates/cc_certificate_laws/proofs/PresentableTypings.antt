-- The claims of a valid derivation are closed at their places.
use Rattle.std.proofs.Common.{◌≡◌, ℕ, suc, [], ◌∷◌, length, refl, sym, ap, subst, ◌∙◌}
use Rattle.cc_capture.specs.declared.var.Elem.TheVariants.{Cap}
use Rattle.cc_capture.specs.Sets.{Set}
use Rattle.cc_core.specs.Shapes.{Shape, ExitShape, capturing}
use Rattle.cc_core.specs.Contexts.{TermEntry, TypeEntry, Context}
use Rattle.cc_core.specs.Terms.{Term, VariableTerm}
use Rattle.cc_core.specs.WellFormed.{kinds_of}
use Rattle.cc_core.specs.Substitution.{single, opened_term}
use Rattle.cc_core.specs.Derivations.{Rule, t-var, t-lit, t-abs, t-tabs, t-app, t-tapp, t-box, t-unbox, t-let, t-prim, t-if, t-repeat, t-op, t-boundary, t-exit, t-sub, Claim, OfType, Derivation, Premises, Node, NoPremise, one, two, three, conclusion, IsValidTyping}
use Rattle.cc_core.proofs.DerivationTypings.{typing_derivations}
use Rattle.cc_core.proofs.KindFacts.{IsKindedType, IsKindedTerm, IsKindedType-from, IsKindedTerm-from}
use Rattle.cc_core.proofs.SubcapturingContexts.{IsKindedContext, IsKindedContext-from}
use Rattle.cc_core.proofs.Sorts.{TermSort}
use Rattle.cc_typing_laws.proofs.FormedContexts.{opened_kinded, kinded_single}
use Rattle.cc_typing_laws.proofs.InternalConversions.{internal_from}
use Rattle.cc_typing_laws.proofs.TypingMaps.{typed_kinded, typed_kinded_set}
use Rattle.cc_certificate_text.specs.Certificates.{OfTerms, rule_kind, claim_kind}
use Rattle.cc_certificate_laws.specs.CertificateLaws.{IsClosedClaim, IsPresentable, HasNoHoleInClaim, IsFinished, ValidDerivationsArePresentable}
use Rattle.cc_certificate_laws.proofs.Places.{IsPlace, deeper_place, root_place, KindedClaim, claim_closed}
use Rattle.cc_certificate_laws.proofs.PresentableComparisons.{comparison_presentable}

-- the type that a valid derivation concludes is well formed
pub concluded_kinded : (g : Context) (t : Term) (d : Derivation) (s : Shape) (c : Set) → IsKindedContext g
    → IsKindedTerm (kinds_of g) [] t → IsValidTyping g t d → conclusion d ≡ OfType (capturing s c)
    → IsKindedType (kinds_of g) [] (capturing s c)
concluded_kinded g t d s c formed is valid concludes =
    let typed = internal_from ((typing_derivations g t s c).1 (d, valid, concludes)) formed is in
    (typed_kinded typed, typed_kinded_set typed)

module _ (names : ℕ) where
  front : (g : Context) (t : Term) (locals : ℕ) (rule : Rule) (premises : Premises) (claim : Claim) (s : Shape) (c : Set)
      → IsPlace names locals g → IsKindedTerm (kinds_of g) [] t → IsValidTyping g t (Node rule premises claim)
      → claim ≡ OfType (capturing s c) → rule_kind rule ≡ OfTerms → HasNoHoleInClaim claim
      → (rule_kind rule ≡ claim_kind claim) × IsClosedClaim names locals claim
  front g t locals rule premises claim s c place is valid same kind holes = (
    kind ∙ sym (ap claim_kind same),
    claim_closed place claim
        (subst (KindedClaim g) (sym same) (concluded_kinded g t (Node rule premises claim) s c place.formed is valid same)) holes,
  )

  pub typing_presentable : (d : Derivation) (g : Context) (t : Term) (locals : ℕ) → IsPlace names locals g
      → IsKindedTerm (kinds_of g) [] t → IsValidTyping g t d → IsFinished d → IsPresentable names locals d
  typing_presentable (Node t-var NoPremise claim) g t locals place is valid done =
      let f = front g t locals t-var NoPremise claim _ _ place is valid valid.5 refl done.0 in (f.0, f.1, done.1, tt)
  typing_presentable (Node t-lit NoPremise claim) g t locals place is valid done =
      let f = front g t locals t-lit NoPremise claim _ _ place is valid valid.2 refl done.0 in (f.0, f.1, done.1, tt)
  typing_presentable (Node t-abs (one p) claim) g t locals place is valid done =
      let f = front g t locals t-abs (one p) claim _ _ place is valid valid.9 refl done.0 in
      let parts = subst (IsKindedTerm (kinds_of g) []) valid.5 is in
      let entry = TermEntry valid.0 valid.1 in (
        f.0,
        f.1,
        done.1,
        (
          typing_presentable p (entry ∷ g) (opened_term (length g) valid.4) (suc locals) (deeper_place entry place (parts.0, parts.1))
              (opened_kinded TermSort g entry valid.4 parts.2) valid.7 done.3.0,
          tt,
        ),
      )
  typing_presentable (Node t-tabs (one p) claim) g t locals place is valid done =
      let f = front g t locals t-tabs (one p) claim _ _ place is valid valid.8 refl done.0 in
      let parts = subst (IsKindedTerm (kinds_of g) []) valid.4 is in
      let entry = TypeEntry valid.0 in (
        f.0,
        f.1,
        done.1,
        (
          typing_presentable p (entry ∷ g) (opened_term (length g) valid.3) (suc locals) (deeper_place entry place parts.0)
              (opened_kinded TermSort g entry valid.3 parts.1) valid.6 done.3.0,
          tt,
        ),
      )
  typing_presentable (Node t-app (two p q) claim) g t locals place is valid done =
      let f = front g t locals t-app (two p q) claim _ _ place is valid valid.12 refl done.0 in
      let parts = subst (IsKindedTerm (kinds_of g) []) valid.7 is in (
        f.0,
        f.1,
        done.1,
        (
          typing_presentable p g (VariableTerm valid.0) locals place parts.0 valid.8 done.3.0,
          (typing_presentable q g (VariableTerm valid.1) locals place parts.1 valid.10 done.3.1.0, tt),
        ),
      )
  typing_presentable (Node t-tapp (two p q) claim) g t locals place is valid done =
      let f = front g t locals t-tapp (two p q) claim _ _ place is valid valid.12 refl done.0 in
      let parts = subst (IsKindedTerm (kinds_of g) []) valid.6 is in
      let head = concluded_kinded g (VariableTerm valid.0) p _ _ place.formed parts.0 valid.7 valid.8 in (
        f.0,
        f.1,
        done.1,
        (
          typing_presentable p g (VariableTerm valid.0) locals place parts.0 valid.7 done.3.0,
          (
            comparison_presentable names q g locals place valid.9
                (subst (KindedClaim g) (sym valid.10) (parts.1, head.0.0)) done.3.1.0,
            tt,
          ),
        ),
      )
  typing_presentable (Node t-box (one p) claim) g t locals place is valid done =
      let f = front g t locals t-box (one p) claim _ _ place is valid valid.7 refl done.0 in
      let parts = subst (IsKindedTerm (kinds_of g) []) valid.3 is in
      (f.0, f.1, done.1, (typing_presentable p g (VariableTerm valid.0) locals place parts valid.4 done.3.0, tt))
  typing_presentable (Node t-unbox (one p) claim) g t locals place is valid done =
      let f = front g t locals t-unbox (one p) claim _ _ place is valid valid.9 refl done.0 in
      let parts = subst (IsKindedTerm (kinds_of g) []) valid.4 is in
      (f.0, f.1, done.1, (typing_presentable p g (VariableTerm valid.0) locals place parts.1 valid.5 done.3.0, tt))
  typing_presentable (Node t-let (two p q) claim) g t locals place is valid done =
      let f = front g t locals t-let (two p q) claim _ _ place is valid valid.15 refl done.0 in
      let parts = subst (IsKindedTerm (kinds_of g) []) valid.7 is in
      let right = concluded_kinded g valid.1 p valid.3 valid.4 place.formed parts.1 valid.8 valid.9 in
      let entry = TermEntry valid.3 valid.4 in (
        f.0,
        f.1,
        done.1,
        (
          typing_presentable p g valid.1 locals place parts.1 valid.8 done.3.0,
          (
            typing_presentable q (entry ∷ g) (opened_term (length g) valid.2) (suc locals) (deeper_place entry place (right.0, right.1))
                (opened_kinded TermSort g entry valid.2 parts.2) valid.11 done.3.1.0,
            tt,
          ),
        ),
      )
  typing_presentable (Node t-prim (two p q) claim) g t locals place is valid done =
      let f = front g t locals t-prim (two p q) claim _ _ place is valid valid.10 refl done.0 in
      let parts = subst (IsKindedTerm (kinds_of g) []) valid.5 is in (
        f.0,
        f.1,
        done.1,
        (
          typing_presentable p g (VariableTerm valid.1) locals place parts.0 valid.6 done.3.0,
          (typing_presentable q g (VariableTerm valid.2) locals place parts.1 valid.8 done.3.1.0, tt),
        ),
      )
  typing_presentable (Node t-if (three p q r) claim) g t locals place is valid done =
      let f = front g t locals t-if (three p q r) claim _ _ place is valid valid.13 refl done.0 in
      let parts = subst (IsKindedTerm (kinds_of g) []) valid.6 is in (
        f.0,
        f.1,
        done.1,
        (
          typing_presentable p g (VariableTerm valid.0) locals place parts.1 valid.7 done.3.0,
          (
            typing_presentable q g valid.1 locals place parts.2 valid.9 done.3.1.0,
            (typing_presentable r g valid.2 locals place parts.3 valid.11 done.3.1.1.0, tt),
          ),
        ),
      )
  typing_presentable (Node t-repeat (two p q) claim) g t locals place is valid done =
      let f = front g t locals t-repeat (two p q) claim _ _ place is valid valid.9 refl done.0 in
      let parts = subst (IsKindedTerm (kinds_of g) []) valid.4 is in (
        f.0,
        f.1,
        done.1,
        (
          typing_presentable p g (VariableTerm valid.0) locals place parts.0 valid.5 done.3.0,
          (typing_presentable q g (VariableTerm valid.1) locals place parts.1 valid.7 done.3.1.0, tt),
        ),
      )
  typing_presentable (Node t-op (two p q) claim) g t locals place is valid done =
      let f = front g t locals t-op (two p q) claim _ _ place is valid valid.12 refl done.0 in
      let parts = subst (IsKindedTerm (kinds_of g) []) valid.6 is in (
        f.0,
        f.1,
        done.1,
        (
          typing_presentable p g (VariableTerm valid.1) locals place parts.0 valid.7 done.3.0,
          (typing_presentable q g (VariableTerm valid.2) locals place parts.1 valid.10 done.3.1.0, tt),
        ),
      )
  typing_presentable (Node t-op (one p) claim) g t locals place is valid done =
      let f = front g t locals t-op (one p) claim _ _ place is valid valid.7 refl done.0 in
      let parts = subst (IsKindedTerm (kinds_of g) []) valid.3 is in
      (f.0, f.1, done.1, (typing_presentable p g (VariableTerm valid.1) locals place parts.0 valid.4 done.3.0, tt))
  typing_presentable (Node t-boundary (one p) claim) g t locals place is valid done =
      let f = front g t locals t-boundary (one p) claim _ _ place is valid valid.6 refl done.0 in
      let parts = subst (IsKindedTerm (kinds_of g) []) valid.2 is in
      let entry = TermEntry (ExitShape valid.0) (single Cap) in (
        f.0,
        f.1,
        done.1,
        (
          typing_presentable p (entry ∷ g) (opened_term (length g) valid.1) (suc locals)
              (deeper_place entry place (parts.0, kinded_single (kinds_of g) [] Cap tt))
              (opened_kinded TermSort g entry valid.1 parts.1) valid.4 done.3.0,
          tt,
        ),
      )
  typing_presentable (Node t-exit (two p q) claim) g t locals place is valid done =
      let f = front g t locals t-exit (two p q) claim _ _ place is valid valid.12 refl done.0 in
      let parts = subst (IsKindedTerm (kinds_of g) []) valid.6 is in (
        f.0,
        f.1,
        done.1,
        (
          typing_presentable p g (VariableTerm valid.2) locals place parts.2 valid.7 done.3.0,
          (typing_presentable q g (VariableTerm valid.3) locals place parts.3 valid.9 done.3.1.0, tt),
        ),
      )
  typing_presentable (Node t-sub (two p q) claim) g t locals place is valid done =
      let f = front g t locals t-sub (two p q) claim _ _ place is valid valid.9 refl done.0 in
      let lower = concluded_kinded g t p valid.0 valid.1 place.formed is valid.4 valid.5 in (
        f.0,
        f.1,
        done.1,
        (
          typing_presentable p g t locals place is valid.4 done.3.0,
          (
            comparison_presentable names q g locals place valid.6
                (subst (KindedClaim g) (sym valid.7) (lower, IsKindedType-from (kinds_of g) [] (capturing valid.2 valid.3) valid.8)) done.3.1.0,
            tt,
          ),
        ),
      )
  typing_presentable _ g t locals place is valid done = absurd valid

pub valid_presentable : ValidDerivationsArePresentable
valid_presentable context term derivation all formed is valid done =
    typing_presentable (length context) derivation context term 0
    (root_place context all (IsKindedContext-from context formed)) (IsKindedTerm-from (kinds_of context) [] term is) valid done
