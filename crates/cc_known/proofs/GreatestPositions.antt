-- The greatest position is the greatest that is free.
use Rattle.std.proofs.Common.{◌≡◌, ℕ, ◌<◌, ◌≤◌, Bool, true, false, ◌||◌, cond, List, [], ◌∷◌, Option, Some, None, refl}
use Rattle.std.proofs.Common.{sym, ◌∙◌, arith}
use Rattle.std.specs.Prelude.{nat_eq, nat_lt}
use Rattle.std.proofs.lemmas.Bool.{ltb-true, ltb-false, eqb-true, eq-eqb}
use Rattle.cc_capture.specs.declared.var.Var.{Var}
use Rattle.cc_capture.specs.declared.var.Var.TheVariants.{Bound, Free}
use Rattle.cc_capture.specs.declared.var.Elem.{Elem}
use Rattle.cc_capture.specs.declared.var.Elem.TheVariants.{Var as Variable, Cap, Hole}
use Rattle.cc_capture.specs.Elements.{same_element}
use Rattle.cc_capture.specs.ElementOrder.{same_element-true, same_element-itself}
use Rattle.cc_capture.specs.Rising.{is_listed}
use Rattle.cc_capture.specs.Sets.{Set, contains}
use Rattle.cc_core.specs.Shapes.{Shape, BaseShape, AnyShape, TypeVariable, FunctionShape, TypeFunctionShape, BoxShape}
use Rattle.cc_core.specs.Shapes.{ExitShape}
use Rattle.cc_checking.specs.Avoidance.{has_position, is_position, is_free_in}
use Rattle.cc_typing_laws.proofs.Avoiding.{not_true}
use Rattle.cc_known.specs.Signatures.{greater_of, position_from, element_position, greatest_listed, greatest_in_set}
use Rattle.cc_known.specs.Signatures.{greatest_in, IsGreatest, GreatestPositionIsGreatest}

or_no : (a b : Bool) → a ≡ false → b ≡ false → (a || b) ≡ false
or_no true b e f = cc
or_no false b e f = f

or_one : (a b : Bool) → a ≡ true → (a || b) ≡ true
or_one true b e = refl
or_one false b e = cc

or_other : (a b : Bool) → b ≡ true → (a || b) ≡ true
or_other true b e = refl
or_other false b e = e

-- the greatest that passes one of two tests
pub greatest_of_both : (first : ℕ) (f g : ℕ → Bool) (a b : Option ℕ) → IsGreatest first f a → IsGreatest first g b
    → IsGreatest first (λ q. f q || g q) (greater_of a b)
greatest_of_both first f g None None p q = λ o h. or_no (f o) (g o) (p o h) (q o h)
greatest_of_both first f g None (Some y) p (from, here, above) = (
  from,
  or_other (f y) (g y) here,
  λ o h. or_no (f o) (g o) (p o (omega arith)) (above o h),
)
greatest_of_both first f g (Some x) None (from, here, above) q = (
  from,
  or_one (f x) (g x) here,
  λ o h. or_no (f o) (g o) (above o h) (q o (omega arith)),
)
greatest_of_both first f g (Some x) (Some y) (from, here, above) (from', here', above') =
    elim (nat_lt x y) as (λ t. nat_lt x y ≡ t → IsGreatest first (λ q. f q || g q) (cond t (Some y) (Some x))) [
      | true ↦ λ is. let less : x < y = ltb-true x y is in (
        from',
        or_other (f y) (g y) here',
        λ o h. or_no (f o) (g o) (above o (omega arith)) (above' o h),
      )
      | false ↦ λ is. let more : y ≤ x = ltb-false x y is in (
        from,
        or_one (f x) (g x) here,
        λ o h. or_no (f o) (g o) (above o h) (above' o (omega arith)),
      )
    ] refl

greatest_alike : (first : ℕ) (f g : ℕ → Bool) (a : Option ℕ) → ((q : ℕ) → f q ≡ g q) → IsGreatest first f a
    → IsGreatest first g a
greatest_alike first f g None same p = λ o h. sym (same o) ∙ p o h
greatest_alike first f g (Some x) same (from, here, above) =
    (from, sym (same x) ∙ here, λ o h. sym (same o) ∙ above o h)

-- where one position alone passes
greatest_one : (first p : ℕ) (f : ℕ → Bool) → f p ≡ true → ((q : ℕ) → f q ≡ true → q ≡ p)
    → IsGreatest first f (cond (nat_lt p first) None (Some p))
greatest_one first p f here alone =
    elim (nat_lt p first) as (λ t. nat_lt p first ≡ t → IsGreatest first f (cond t None (Some p))) [
      | true ↦ λ is o h.
          let less : p < first = ltb-true p first is in
          not_true (f o) (λ passes. let same : o ≡ p = alone o passes in absurd (omega arith))
      | false ↦ λ is. let more : first ≤ p = ltb-false p first is in (
        more,
        here,
        λ o h. not_true (f o) (λ passes. let same : o ≡ p = alone o passes in absurd (omega arith)),
      )
    ] refl

variable_greatest : (first : ℕ) (v : Var) → IsGreatest first (λ q. is_position q v) (position_from first v)
variable_greatest first (Free p) = greatest_one first p (λ q. nat_eq q p) (eq-eqb p p refl) (λ q e. eqb-true q p e)
variable_greatest first (Bound i) = λ o h. refl

same_position : (q p : ℕ) → Variable (Free q) ≡ Variable (Free p) → q ≡ p
same_position q p e = cc

element_greatest : (first : ℕ) (e : Elem)
    → IsGreatest first (λ q. same_element (Variable (Free q)) e) (element_position first e)
element_greatest first (Variable (Free p)) =
    greatest_one first p (λ q. same_element (Variable (Free q)) (Variable (Free p)))
    (same_element-itself (Variable (Free p)))
    (λ q is. same_position q p (same_element-true (Variable (Free q)) (Variable (Free p)) is))
element_greatest first (Variable (Bound i)) =
    λ o h. not_true (same_element (Variable (Free o)) (Variable (Bound i)))
    (λ is. let clash = same_element-true (Variable (Free o)) (Variable (Bound i)) is in cc)
element_greatest first Cap =
    λ o h. not_true (same_element (Variable (Free o)) Cap)
    (λ is. let clash = same_element-true (Variable (Free o)) Cap is in cc)
element_greatest first (Hole n) =
    λ o h. not_true (same_element (Variable (Free o)) (Hole n))
    (λ is. let clash = same_element-true (Variable (Free o)) (Hole n) is in cc)

list_greatest : (first : ℕ) (xs : List Elem)
    → IsGreatest first (λ q. is_listed (Variable (Free q)) xs) (greatest_listed first xs)
list_greatest first [] = λ o h. refl
list_greatest first (x ∷ xs) =
    greatest_of_both first (λ q. same_element (Variable (Free q)) x) (λ q. is_listed (Variable (Free q)) xs)
    (element_position first x) (greatest_listed first xs) (element_greatest first x) (list_greatest first xs)

pub set_greatest : (first : ℕ) (c : Set) → IsGreatest first (λ q. has_position q c) (greatest_in_set first c)
unfolding contains
set_greatest first c = list_greatest first c.list

regrouped : (a b c d : Bool) → ((a || b) || (c || d)) ≡ (a || b || c || d)
regrouped true b c d = refl
regrouped false true c d = refl
regrouped false false c d = refl

regrouped_three : (a b c : Bool) → (a || (b || c)) ≡ (a || b || c)
regrouped_three true b c = refl
regrouped_three false b c = refl

pub shape_greatest : (first : ℕ) (s : Shape) → IsGreatest first (λ q. is_free_in q s) (greatest_in first s)
shape_greatest first (BaseShape b) = λ o h. refl
shape_greatest first AnyShape = λ o h. refl
shape_greatest first (TypeVariable v) = variable_greatest first v
shape_greatest first (FunctionShape t c g e) =
    greatest_alike first
    (λ q. (is_free_in q t || has_position q c) || (is_free_in q g || has_position q e))
    (λ q. is_free_in q (FunctionShape t c g e))
    (greatest_in first (FunctionShape t c g e))
    (λ q. regrouped (is_free_in q t) (has_position q c) (is_free_in q g) (has_position q e))
    (greatest_of_both first (λ q. is_free_in q t || has_position q c) (λ q. is_free_in q g || has_position q e)
    (greater_of (greatest_in first t) (greatest_in_set first c))
    (greater_of (greatest_in first g) (greatest_in_set first e))
    (greatest_of_both first (λ q. is_free_in q t) (λ q. has_position q c) (greatest_in first t)
    (greatest_in_set first c)
    (shape_greatest first t) (set_greatest first c))
    (greatest_of_both first (λ q. is_free_in q g) (λ q. has_position q e) (greatest_in first g)
    (greatest_in_set first e)
    (shape_greatest first g) (set_greatest first e)))
shape_greatest first (TypeFunctionShape b g e) =
    greatest_alike first (λ q. is_free_in q b || (is_free_in q g || has_position q e))
    (λ q. is_free_in q (TypeFunctionShape b g e))
    (greatest_in first (TypeFunctionShape b g e))
    (λ q. regrouped_three (is_free_in q b) (is_free_in q g) (has_position q e))
    (greatest_of_both first (λ q. is_free_in q b) (λ q. is_free_in q g || has_position q e)
    (greatest_in first b) (greater_of (greatest_in first g) (greatest_in_set first e))
    (shape_greatest first b)
    (greatest_of_both first (λ q. is_free_in q g) (λ q. has_position q e) (greatest_in first g)
    (greatest_in_set first e)
    (shape_greatest first g) (set_greatest first e)))
shape_greatest first (BoxShape t c) =
    greatest_of_both first (λ q. is_free_in q t) (λ q. has_position q c) (greatest_in first t) (greatest_in_set first c)
    (shape_greatest first t) (set_greatest first c)
shape_greatest first (ExitShape g) = shape_greatest first g

pub greatest_is_greatest : GreatestPositionIsGreatest
greatest_is_greatest first t =
    greatest_of_both first (λ q. is_free_in q t.shape) (λ q. has_position q t.set) (greatest_in first t.shape)
    (greatest_in_set first t.set) (shape_greatest first t.shape) (set_greatest first t.set)
