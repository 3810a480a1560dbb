-- The claims of a valid derivation are well formed at their places.
use Rattle.std.proofs.Common.{◌≡◌, ℕ, suc, [], ◌∷◌, length, refl, sym, subst}
use Rattle.cc_capture.specs.declared.var.Elem.TheVariants.{Cap}
use Rattle.cc_capture.specs.Sets.{Set}
use Rattle.cc_core.specs.Shapes.{Shape, ExitShape, capturing}
use Rattle.cc_core.specs.Contexts.{TermEntry, TypeEntry, Context}
use Rattle.cc_core.specs.Terms.{Term, VariableTerm}
use Rattle.cc_core.specs.WellFormed.{kinds_of}
use Rattle.cc_core.specs.Substitution.{single, opened_term}
use Rattle.cc_core.specs.Derivations.{Rule, t-var, t-lit, t-abs, t-tabs, t-app, t-tapp, t-box, t-unbox, t-let, t-prim, t-if, t-repeat, t-op, t-boundary, t-exit, t-sub, Claim, OfType, Derivation, Premises, Node, NoPremise, one, two, three, IsValidTyping}
use Rattle.cc_core.proofs.KindFacts.{IsKindedTerm, IsKindedType-from}
use Rattle.cc_core.proofs.SubcapturingContexts.{IsKindedContext}
use Rattle.cc_core.proofs.Sorts.{TermSort}
use Rattle.cc_typing_laws.proofs.FormedContexts.{opened_kinded, kinded_single}
use Rattle.cc_certificate_laws.specs.CertificateLaws.{IsFinished}
use Rattle.cc_certificate_laws.proofs.Places.{KindedClaim}
use Rattle.cc_certificate_laws.proofs.PresentableTypings.{concluded_kinded}
use Rattle.cc_certificate_laws.proofs.Settled.{IsSettled}
use Rattle.cc_certificate_laws.proofs.SettledComparisons.{comparison_settled}

front : (g : Context) (t : Term) (rule : Rule) (premises : Premises) (claim : Claim) (s : Shape) (c : Set)
    → IsKindedContext g → IsKindedTerm (kinds_of g) [] t → IsValidTyping g t (Node rule premises claim)
    → claim ≡ OfType (capturing s c) → KindedClaim g claim
front g t rule premises claim s c place is valid same =
    subst (KindedClaim g) (sym same) (concluded_kinded g t (Node rule premises claim) s c place is valid same)

pub typing_settled : (d : Derivation) (g : Context) (t : Term) (locals : ℕ) → IsKindedContext g
    → IsKindedTerm (kinds_of g) [] t → IsValidTyping g t d → IsFinished d → IsSettled locals (kinds_of g) d
typing_settled (Node t-var NoPremise claim) g t locals place is valid done =
    let f = front g t t-var NoPremise claim _ _ place is valid valid.5 in (f, done.0, tt)
typing_settled (Node t-lit NoPremise claim) g t locals place is valid done =
    let f = front g t t-lit NoPremise claim _ _ place is valid valid.2 in (f, done.0, tt)
typing_settled (Node t-abs (one p) claim) g t locals place is valid done =
    let f = front g t t-abs (one p) claim _ _ place is valid valid.9 in
    let parts = subst (IsKindedTerm (kinds_of g) []) valid.5 is in
    let entry = TermEntry valid.0 valid.1 in (
      f,
      done.0,
      (
        refl,
        typing_settled p (entry ∷ g) (opened_term (length g) valid.4) (suc locals) ((parts.0, parts.1), place)
            (opened_kinded TermSort g entry valid.4 parts.2) valid.7 done.3.0,
        tt,
      ),
    )
typing_settled (Node t-tabs (one p) claim) g t locals place is valid done =
    let f = front g t t-tabs (one p) claim _ _ place is valid valid.8 in
    let parts = subst (IsKindedTerm (kinds_of g) []) valid.4 is in
    let entry = TypeEntry valid.0 in (
      f,
      done.0,
      (
        refl,
        typing_settled p (entry ∷ g) (opened_term (length g) valid.3) (suc locals) (parts.0, place)
            (opened_kinded TermSort g entry valid.3 parts.1) valid.6 done.3.0,
        tt,
      ),
    )
typing_settled (Node t-app (two p q) claim) g t locals place is valid done =
    let f = front g t t-app (two p q) claim _ _ place is valid valid.12 in
    let parts = subst (IsKindedTerm (kinds_of g) []) valid.7 is in (
      f,
      done.0,
      (
        refl,
        typing_settled p g (VariableTerm valid.0) locals place parts.0 valid.8 done.3.0,
        (refl, typing_settled q g (VariableTerm valid.1) locals place parts.1 valid.10 done.3.1.0, tt),
      ),
    )
typing_settled (Node t-tapp (two p q) claim) g t locals place is valid done =
    let f = front g t t-tapp (two p q) claim _ _ place is valid valid.12 in
    let parts = subst (IsKindedTerm (kinds_of g) []) valid.6 is in
    let head = concluded_kinded g (VariableTerm valid.0) p _ _ place parts.0 valid.7 valid.8 in (
      f,
      done.0,
      (
        refl,
        typing_settled p g (VariableTerm valid.0) locals place parts.0 valid.7 done.3.0,
        (
          refl,
          comparison_settled q g locals place valid.9
              (subst (KindedClaim g) (sym valid.10) (parts.1, head.0.0)) done.3.1.0,
          tt,
        ),
      ),
    )
typing_settled (Node t-box (one p) claim) g t locals place is valid done =
    let f = front g t t-box (one p) claim _ _ place is valid valid.7 in
    let parts = subst (IsKindedTerm (kinds_of g) []) valid.3 is in
    (f, done.0, (refl, typing_settled p g (VariableTerm valid.0) locals place parts valid.4 done.3.0, tt))
typing_settled (Node t-unbox (one p) claim) g t locals place is valid done =
    let f = front g t t-unbox (one p) claim _ _ place is valid valid.9 in
    let parts = subst (IsKindedTerm (kinds_of g) []) valid.4 is in
    (f, done.0, (refl, typing_settled p g (VariableTerm valid.0) locals place parts.1 valid.5 done.3.0, tt))
typing_settled (Node t-let (two p q) claim) g t locals place is valid done =
    let f = front g t t-let (two p q) claim _ _ place is valid valid.15 in
    let parts = subst (IsKindedTerm (kinds_of g) []) valid.7 is in
    let right = concluded_kinded g valid.1 p valid.3 valid.4 place parts.1 valid.8 valid.9 in
    let entry = TermEntry valid.3 valid.4 in (
      f,
      done.0,
      (
        refl,
        typing_settled p g valid.1 locals place parts.1 valid.8 done.3.0,
        (
          refl,
          typing_settled q (entry ∷ g) (opened_term (length g) valid.2) (suc locals) ((right.0, right.1), place)
              (opened_kinded TermSort g entry valid.2 parts.2) valid.11 done.3.1.0,
          tt,
        ),
      ),
    )
typing_settled (Node t-prim (two p q) claim) g t locals place is valid done =
    let f = front g t t-prim (two p q) claim _ _ place is valid valid.10 in
    let parts = subst (IsKindedTerm (kinds_of g) []) valid.5 is in (
      f,
      done.0,
      (
        refl,
        typing_settled p g (VariableTerm valid.1) locals place parts.0 valid.6 done.3.0,
        (refl, typing_settled q g (VariableTerm valid.2) locals place parts.1 valid.8 done.3.1.0, tt),
      ),
    )
typing_settled (Node t-if (three p q r) claim) g t locals place is valid done =
    let f = front g t t-if (three p q r) claim _ _ place is valid valid.13 in
    let parts = subst (IsKindedTerm (kinds_of g) []) valid.6 is in (
      f,
      done.0,
      (
        refl,
        typing_settled p g (VariableTerm valid.0) locals place parts.1 valid.7 done.3.0,
        (
          refl,
          typing_settled q g valid.1 locals place parts.2 valid.9 done.3.1.0,
          (refl, typing_settled r g valid.2 locals place parts.3 valid.11 done.3.1.1.0, tt),
        ),
      ),
    )
typing_settled (Node t-repeat (two p q) claim) g t locals place is valid done =
    let f = front g t t-repeat (two p q) claim _ _ place is valid valid.9 in
    let parts = subst (IsKindedTerm (kinds_of g) []) valid.4 is in (
      f,
      done.0,
      (
        refl,
        typing_settled p g (VariableTerm valid.0) locals place parts.0 valid.5 done.3.0,
        (refl, typing_settled q g (VariableTerm valid.1) locals place parts.1 valid.7 done.3.1.0, tt),
      ),
    )
typing_settled (Node t-op (two p q) claim) g t locals place is valid done =
    let f = front g t t-op (two p q) claim _ _ place is valid valid.12 in
    let parts = subst (IsKindedTerm (kinds_of g) []) valid.6 is in (
      f,
      done.0,
      (
        refl,
        typing_settled p g (VariableTerm valid.1) locals place parts.0 valid.7 done.3.0,
        (refl, typing_settled q g (VariableTerm valid.2) locals place parts.1 valid.10 done.3.1.0, tt),
      ),
    )
typing_settled (Node t-op (one p) claim) g t locals place is valid done =
    let f = front g t t-op (one p) claim _ _ place is valid valid.7 in
    let parts = subst (IsKindedTerm (kinds_of g) []) valid.3 is in
    (f, done.0, (refl, typing_settled p g (VariableTerm valid.1) locals place parts.0 valid.4 done.3.0, tt))
typing_settled (Node t-boundary (one p) claim) g t locals place is valid done =
    let f = front g t t-boundary (one p) claim _ _ place is valid valid.6 in
    let parts = subst (IsKindedTerm (kinds_of g) []) valid.2 is in
    let entry = TermEntry (ExitShape valid.0) (single Cap) in (
      f,
      done.0,
      (
        refl,
        typing_settled p (entry ∷ g) (opened_term (length g) valid.1) (suc locals)
            ((parts.0, kinded_single (kinds_of g) [] Cap tt), place)
            (opened_kinded TermSort g entry valid.1 parts.1) valid.4 done.3.0,
        tt,
      ),
    )
typing_settled (Node t-exit (two p q) claim) g t locals place is valid done =
    let f = front g t t-exit (two p q) claim _ _ place is valid valid.12 in
    let parts = subst (IsKindedTerm (kinds_of g) []) valid.6 is in (
      f,
      done.0,
      (
        refl,
        typing_settled p g (VariableTerm valid.2) locals place parts.2 valid.7 done.3.0,
        (refl, typing_settled q g (VariableTerm valid.3) locals place parts.3 valid.9 done.3.1.0, tt),
      ),
    )
typing_settled (Node t-sub (two p q) claim) g t locals place is valid done =
    let f = front g t t-sub (two p q) claim _ _ place is valid valid.9 in
    let lower = concluded_kinded g t p valid.0 valid.1 place is valid.4 valid.5 in (
      f,
      done.0,
      (
        refl,
        typing_settled p g t locals place is valid.4 done.3.0,
        (
          refl,
          comparison_settled q g locals place valid.6
              (subst (KindedClaim g) (sym valid.7) (lower, IsKindedType-from (kinds_of g) [] (capturing valid.2 valid.3) valid.8)) done.3.1.0,
          tt,
        ),
      ),
    )
typing_settled _ g t locals place is valid done = absurd valid
