-- Rising lists: placing an element, what is listed, and that what is listed tells them apart.
use Rattle.std.proofs.Common.{◌≡◌, Bool, true, false, ◌||◌, List, [], ◌∷◌, inl, inr, refl, sym, ap, ◌∙◌, subst}
use Rattle.std.specs.declared.cmp.Ordering.TheVariants.{Less, Equal, Greater}
use Rattle.std.specs.Ordering.{match_ordering}
use Rattle.std.proofs.lemmas.Bool.{or_cases, or_left, or_right, or_from, both_ways}
use Rattle.cc_capture.specs.declared.var.Elem.{Elem}
use Rattle.cc_capture.specs.Elements.{element_order, same_element}
use Rattle.cc_capture.specs.Rising.{IsBelow, IsBelowAll, IsRising, is_listed, placed}
use Rattle.cc_capture.specs.Placing.{IsBelowAll-trans}
use Rattle.cc_capture.specs.ElementOrder.{element_order-Equal, element_order-back, same_element-true}
use Rattle.cc_capture.specs.ElementOrder.{same_element-itself, same_element-below}

or_swap : (a b c : Bool) → (a || (b || c)) ≡ (b || (a || c))
or_swap true true c = refl
or_swap true false c = refl
or_swap false b c = refl

or_same : (a b c : Bool) → a ≡ b → (a || (b || c)) ≡ (b || c)
or_same true b c e = rw (← e) refl
or_same false b c e = refl

-- what is listed once an element is placed
pub is_listed-placed : (e x : Elem) (ys : List Elem) → is_listed e (placed x ys) ≡ (same_element e x || is_listed e ys)
unfolding placed
is_listed-placed e x [] = refl
is_listed-placed e x (y ∷ ys) =
    elim (element_order x y) as (λ o. element_order x y ≡ o → is_listed e
    (match_ordering o (x ∷ y ∷ ys) (y ∷ ys) (y ∷ placed x ys)) ≡
    (same_element e x || (same_element e y || is_listed e ys))) [
      | Less ↦ λ _. refl
      | Equal ↦
          λ same. sym (or_same (same_element e x) (same_element e y) (is_listed e ys)
          (ap (same_element e) (element_order-Equal x y same)))
      | Greater ↦
          λ _. ap (λ b. same_element e y || b) (is_listed-placed e x ys)
          ∙ or_swap (same_element e y) (same_element e x) (is_listed e ys)
    ] refl

-- an element that comes before all of a list is not listed
pub is_listed-below : (x : Elem) (ys : List Elem) → IsBelowAll x ys → is_listed x ys ≡ false
is_listed-below x [] a = refl
is_listed-below x (y ∷ ys) a = or_from _ _ (same_element-below x y a.0) (is_listed-below x ys a.1)

-- one list's elements are listed in another
abbrev pub IsWithin : List Elem → List Elem → Type 0
IsWithin xs ys = (e : Elem) → is_listed e xs ≡ true → is_listed e ys ≡ true

is_listed-first : (x : Elem) (xs : List Elem) → is_listed x (x ∷ xs) ≡ true
is_listed-first x xs = or_left _ _ (same_element-itself x)

IsWithin-tail : (x : Elem) (xs ys : List Elem) → IsBelowAll x xs → IsWithin (x ∷ xs) (x ∷ ys) → IsWithin xs ys
IsWithin-tail x xs ys below within e here =
    elim (or_cases _ _ (within e (or_right (same_element e x) _ here))) [
      | inl same ↦ absurd (both_ways _ (is_listed-below x xs below) (rw (← same_element-true e x same) here))
      | inr there ↦ there
    ]

not_below_other : (x y : Elem) (xs ys : List Elem) → IsBelow x y → IsBelowAll y ys → IsWithin (x ∷ xs) (y ∷ ys) → ⊥
not_below_other x y xs ys less below within =
    both_ways _ (is_listed-below x (y ∷ ys) (less, IsBelowAll-trans x y ys less below))
    (within x (is_listed-first x xs))

-- rising lists with the same elements are equal
pub rising_same : (xs ys : List Elem) → IsRising xs → IsRising ys → IsWithin xs ys → IsWithin ys xs → xs ≡ ys
rising_same [] [] r s there back = refl
rising_same [] (y ∷ ys) r s there back = absurd (both_ways false refl (back y (is_listed-first y ys)))
rising_same (x ∷ xs) [] r s there back = absurd (both_ways false refl (there x (is_listed-first x xs)))
rising_same (x ∷ xs) (y ∷ ys) r s there back =
    elim (element_order x y) as (λ o. element_order x y ≡ o → x ∷ xs ≡ y ∷ ys) [
      | Less ↦ λ less. absurd (not_below_other x y xs ys less s.0 there)
      | Equal ↦ λ same. same_tails x y xs ys (element_order-Equal x y same) r s there back (rising_same xs ys r.1 s.1)
      | Greater ↦ λ more. absurd (not_below_other y x ys xs (element_order-back x y more) r.0 back)
    ] refl
  where
    same_tails : (x y : Elem) (xs ys : List Elem) → x ≡ y → IsRising (x ∷ xs) → IsRising (y ∷ ys)
        → IsWithin (x ∷ xs) (y ∷ ys) → IsWithin (y ∷ ys) (x ∷ xs) → (IsWithin xs ys → IsWithin ys xs → xs ≡ ys)
        → x ∷ xs ≡ y ∷ ys
    same_tails x y xs ys same r s there back tails =
        let there' : IsWithin (x ∷ xs) (x ∷ ys) = subst (λ z. IsWithin (x ∷ xs) (z ∷ ys)) (sym same) there in
        let back' : IsWithin (x ∷ ys) (x ∷ xs) = subst (λ z. IsWithin (z ∷ ys) (x ∷ xs)) (sym same) back in
        let below : IsBelowAll x ys = subst (λ z. IsBelowAll z ys) (sym same) s.0 in
        let equal : xs ≡ ys = tails (IsWithin-tail x xs ys r.0 there') (IsWithin-tail x ys xs below back') in
        cc
