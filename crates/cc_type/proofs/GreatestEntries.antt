-- What is free in a well-formed type has an entry; among globals this is a variable of terms.
use Rattle.std.proofs.Common.{◌≡◌, ℕ, ◌<◌, ◌≤◌, false, List, [], ◌∷◌, length, Some, refl, inl, inr, arith}
use Rattle.std.specs.Prelude.{nat_eq}
use Rattle.std.proofs.lemmas.Bool.{cases_lt, eqb-true, both_ways}
use Rattle.cc_capture.specs.declared.var.Var.{Var}
use Rattle.cc_capture.specs.declared.var.Var.TheVariants.{Bound, Free}
use Rattle.cc_capture.specs.declared.var.Elem.TheVariants.{Var as Variable}
use Rattle.cc_capture.specs.Sets.{Set}
use Rattle.cc_core.specs.Shapes.{Shape, BaseShape, AnyShape, TypeVariable, FunctionShape, TypeFunctionShape, BoxShape}
use Rattle.cc_core.specs.Shapes.{ExitShape, CapturingType}
use Rattle.cc_core.specs.Contexts.{TermEntry, Context, lookup}
use Rattle.cc_core.specs.WellFormed.{Kind, TermKind, TypeKind, kind_of, kinds_of, IsWellFormedType}
use Rattle.cc_core.proofs.KindFacts.{IsOfKind, IsKinded, IsKindedSet, IsKindedType-from}
use Rattle.cc_core.proofs.Lookups.{length_map, lookup-below}
use Rattle.cc_core.proofs.SubcapturingContexts.{entry_of_term}
use Rattle.cc_checking.specs.Avoidance.{has_position, is_position, is_free_in, is_free_in_type}
use Rattle.cc_typing_laws.proofs.Avoiding.{not_true}
use Rattle.cc_checking_laws.proofs.CheckedDefinitions.{all_terms}
use Rattle.cc_known.specs.Signatures.{GreatestPositionHasAnEntry}
use Rattle.cc_type.proofs.AvoidedGreatest.{or_no, greatest_some}

module _ (kinds : List Kind) (q : ℕ) (past : length kinds ≤ q) where
  set_past : (passed : List Kind) (c : Set) → IsKindedSet kinds passed c → has_position q c ≡ false
  set_past passed c k =
      not_true (has_position q c)
      (λ m. let below : q < length kinds = lookup-below kinds q TermKind (k (Variable (Free q)) m) in
      absurd (omega arith))

  variable_past : (passed : List Kind) (v : Var) → IsOfKind kinds passed v TypeKind → is_position q v ≡ false
  variable_past passed (Bound i) k = refl
  variable_past passed (Free p) k =
      not_true (nat_eq q p)
      (λ is.
      let same : q ≡ p = eqb-true q p is in
      let below : p < length kinds = lookup-below kinds p TypeKind k in
      absurd (omega arith))

  shape_past : (passed : List Kind) (s : Shape) → IsKinded kinds passed s → is_free_in q s ≡ false
  shape_past passed (BaseShape b) k = refl
  shape_past passed AnyShape k = refl
  shape_past passed (TypeVariable v) k = variable_past passed v k
  shape_past passed (FunctionShape t c g e) k =
      or_no _ _ (or_no _ _ (or_no _ _ (shape_past passed t k.0) (set_past passed c k.1))
      (shape_past (TermKind ∷ passed) g k.2))
      (set_past (TermKind ∷ passed) e k.3)
  shape_past passed (TypeFunctionShape b g e) k =
      or_no _ _ (or_no _ _ (shape_past passed b k.0) (shape_past (TypeKind ∷ passed) g k.1))
      (set_past (TypeKind ∷ passed) e k.2)
  shape_past passed (BoxShape t c) k = or_no _ _ (shape_past passed t k.0) (set_past passed c k.1)
  shape_past passed (ExitShape g) k = shape_past passed g k

pub type_past : (g : Context) (q : ℕ) (t : CapturingType) → length g ≤ q → IsWellFormedType g t
    → is_free_in_type q t ≡ false
type_past g q t past known =
    let kinded = IsKindedType-from (kinds_of g) [] t known in
    let lengths = length_map kind_of g in
    or_no (is_free_in q t.shape) (has_position q t.set)
    (shape_past (kinds_of g) q (omega arith) [] t.shape kinded.0)
    (set_past (kinds_of g) q (omega arith) [] t.set kinded.1)

pub greatest_position_has_an_entry : GreatestPositionHasAnEntry
greatest_position_has_an_entry devices g t p alone known is =
    let k = greatest_some devices t p is in
    elim (cases_lt p (length g)) as (λ _. (s : _) × (d : _) × (lookup g p ≡ Some (TermEntry s d))) [
      | inl below ↦ entry_of_term g p (all_terms g alone p below)
      | inr past ↦ absurd (both_ways (is_free_in_type p t) (type_past g p t past known) k.1)
    ]
