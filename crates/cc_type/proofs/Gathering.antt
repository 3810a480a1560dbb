-- The greatest position and the number of holes of a list, with one element more behind.
use Rattle.std.proofs.Common.{◌≡◌, ℕ, ◌<◌, ◌≤◌, max, true, false, List, [], ◌∷◌, ◌++◌, Option, Some}
use Rattle.std.proofs.Common.{None, refl, sym, ap, ◌∙◌, inl, inr, arith}
use Rattle.std.specs.Prelude.{nat_lt}
use Rattle.std.proofs.lemmas.Bool.{cases_lt, cond-true, cond-false, ltb-true, ltb-false}
use Rattle.cc_capture.specs.declared.var.Elem.{Elem}
use Rattle.cc_typing_laws.proofs.Avoiding.{not_true}
use Rattle.cc_known.specs.FilledHoles.{holes_of_element, holes_listed}
use Rattle.cc_known.specs.Signatures.{greater_of, element_position, greatest_listed}

less_test : (x y : ℕ) → x < y → nat_lt x y ≡ true
less_test x y h =
    elim (nat_lt x y) as (λ t. nat_lt x y ≡ t → t ≡ true) [
      | true ↦ λ is. refl
      | false ↦ λ is. let more : y ≤ x = ltb-false x y is in absurd (omega arith)
    ] refl

second_greater : (x y : ℕ) → x < y → greater_of (Some x) (Some y) ≡ Some y
second_greater x y h = cond-true (nat_lt x y) (Some y) (Some x) (less_test x y h)

first_greater : (x y : ℕ) → y ≤ x → greater_of (Some x) (Some y) ≡ Some x
first_greater x y h =
    cond-false (nat_lt x y) (Some y) (Some x)
    (not_true (nat_lt x y) (λ is. let less : x < y = ltb-true x y is in absurd (omega arith)))

greater_of-none : (o : Option ℕ) → greater_of o None ≡ o
greater_of-none None = refl
greater_of-none (Some x) = refl

-- the greater of three
pub greater_of-associative : (a b c : Option ℕ) → greater_of a (greater_of b c) ≡ greater_of (greater_of a b) c
greater_of-associative None b c = refl
greater_of-associative (Some x) None c = refl
greater_of-associative (Some x) (Some y) None = sym (greater_of-none (greater_of (Some x) (Some y)))
greater_of-associative (Some x) (Some y) (Some z) =
    elim (cases_lt x y) as (λ _. greater_of (Some x) (greater_of (Some y) (Some z)) ≡ greater_of
    (greater_of (Some x) (Some y)) (Some z)) [
      | inl xy ↦
          elim (cases_lt y z) as (λ _. greater_of (Some x) (greater_of (Some y) (Some z)) ≡ greater_of
          (greater_of (Some x) (Some y)) (Some z)) [
            | inl yz ↦
                ap (greater_of (Some x)) (second_greater y z yz) ∙ second_greater x z (omega arith)
                ∙ sym (ap (λ o. greater_of o (Some z)) (second_greater x y xy) ∙ second_greater y z yz)
            | inr zy ↦
                ap (greater_of (Some x)) (first_greater y z zy) ∙ second_greater x y xy
                ∙ sym (ap (λ o. greater_of o (Some z)) (second_greater x y xy) ∙ first_greater y z zy)
          ]
      | inr yx ↦
          elim (cases_lt y z) as (λ _. greater_of (Some x) (greater_of (Some y) (Some z)) ≡ greater_of
          (greater_of (Some x) (Some y)) (Some z)) [
            | inl yz ↦
                ap (greater_of (Some x)) (second_greater y z yz)
                ∙ sym (ap (λ o. greater_of o (Some z)) (first_greater x y yx))
            | inr zy ↦
                ap (greater_of (Some x)) (first_greater y z zy) ∙ first_greater x y yx
                ∙ sym (ap (λ o. greater_of o (Some z)) (first_greater x y yx) ∙ first_greater x z (omega arith))
          ]
    ]

-- the greatest position of a list, with one element more behind
pub greatest_listed-push : (first : ℕ) (xs : List Elem) (e : Elem)
    → greatest_listed first (xs ++ (e ∷ [])) ≡ greater_of (greatest_listed first xs) (element_position first e)
greatest_listed-push first [] e = greater_of-none (element_position first e)
greatest_listed-push first (x ∷ xs) e =
    ap (greater_of (element_position first x)) (greatest_listed-push first xs e)
    ∙ greater_of-associative (element_position first x) (greatest_listed first xs) (element_position first e)

max-associative : (a b c : ℕ) → max a (max b c) ≡ max (max a b) c
max-associative a b c = omega arith

-- the number of holes of a list, with one element more behind
pub holes_listed-push : (xs : List Elem) (e : Elem)
    → holes_listed (xs ++ (e ∷ [])) ≡ max (holes_listed xs) (holes_of_element e)
holes_listed-push [] e = omega arith
holes_listed-push (x ∷ xs) e =
    ap (max (holes_of_element x)) (holes_listed-push xs e)
    ∙ max-associative (holes_of_element x) (holes_listed xs) (holes_of_element e)
