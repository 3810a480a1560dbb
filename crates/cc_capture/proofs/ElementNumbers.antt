-- Numbers rise as their elements do, so an element has one number.
use Rattle.std.proofs.Common.{◌≡◌, ℕ, ◌+◌, ◌-◌, ◌<◌, ◌≤◌, inl, inr, refl, sym, ap, ◌∙◌, arith}
use Rattle.std.specs.declared.cmp.Ordering.TheVariants.{Less}
use Rattle.std.proofs.lemmas.Bool.{lt-ltb, le-ltb, ne_eqb, both_ways, cases_lt, cases_order}
use Rattle.cc_capture.specs.declared.var.Var.TheVariants.{Bound, Free}
use Rattle.cc_capture.specs.declared.var.Elem.{Elem}
use Rattle.cc_capture.specs.declared.var.Elem.TheVariants.{Var as Variable, Cap, Hole}
use Rattle.cc_capture.specs.Elements.{element_order, same_element}
use Rattle.cc_capture.specs.ElementOrder.{element_order-Free, element_order-Bound, element_order-Hole}
use Rattle.cc_capture.specs.ElementOrder.{element_order-Free-Bound, element_order-Bound-Cap, element_order-Cap-Hole}
use Rattle.cc_capture.specs.ElementOrder.{same_element-below, same_element-itself}
use Rattle.cc_capture.specs.Numbers.{element_at}

pub element_at_Free : (n : ℕ) → n < 4294967296 → element_at n ≡ Variable (Free n)
unfolding element_at
element_at_Free n h = rw (lt-ltb n 4294967296 h) refl

pub element_at_Bound : (n : ℕ) → 4294967296 ≤ n → n < 8589934592 → element_at n ≡ Variable (Bound (8589934591 - n))
unfolding element_at
element_at_Bound n l h = rw (le-ltb n 4294967296 l, lt-ltb n 8589934592 h) refl

pub element_at_Cap : (n : ℕ) → n ≡ 8589934592 → element_at n ≡ Cap
unfolding element_at
element_at_Cap n e = rw e refl

pub element_at_Hole : (n : ℕ) → 8589934592 < n → element_at n ≡ Hole (n - 8589934593)
unfolding element_at
element_at_Hole n h =
    rw (
      le-ltb n 4294967296 (omega arith),
      le-ltb n 8589934592 (omega arith),
      ne_eqb n 8589934592
          (λ e. omega (arith, e, h)),
    ) refl

-- the numbers of elements lead back to them
pub element_at_Bound_index : (i n : ℕ) → i < 4294967296 → n ≡ 8589934591 - i → element_at n ≡ Variable (Bound i)
element_at_Bound_index i n h e =
    element_at_Bound n (omega (arith, e, h)) (omega (arith, e, h)) ∙ ap (λ k. Variable (Bound k)) (omega (arith, e, h))

pub element_at_Hole_number : (m n : ℕ) → n ≡ 8589934593 + m → element_at n ≡ Hole m
element_at_Hole_number m n e = element_at_Hole n (omega (arith, e)) ∙ ap (λ k. Hole k) (omega (arith, e))

-- what kind of element a number has
data Kind (n : ℕ) : Type 0 where
  is_free : n < 4294967296 → Kind n
  is_bound : 4294967296 ≤ n → n < 8589934592 → Kind n
  is_cap : n ≡ 8589934592 → Kind n
  is_hole : 8589934592 < n → Kind n

kind : (n : ℕ) → Kind n
kind n =
    elim (cases_lt n 4294967296) [
      | inl free ↦ is_free free
      | inr past ↦ elim (cases_order n 8589934592) [
        | inl same ↦ is_cap same
        | inr other ↦ elim other [ inl less ↦ is_bound past less | inr more ↦ is_hole more ]
      ]
    ]

order : (m n : ℕ) (x y : Elem) → element_at m ≡ x → element_at n ≡ y → element_order x y ≡ Less
    → element_order (element_at m) (element_at n) ≡ Less
order m n x y p q less = rw (p, q) less

-- elements rise as their numbers do
pub element_at-rises : (m n : ℕ) → m < n → element_order (element_at m) (element_at n) ≡ Less
unfolding element_order
element_at-rises m n less = by_kinds (kind m) (kind n)
  where
    by_kinds : Kind m → Kind n → element_order (element_at m) (element_at n) ≡ Less
    by_kinds (is_free a) (is_free b) =
        order m n _ _ (element_at_Free m a) (element_at_Free n b) (element_order-Free m n less)
    by_kinds (is_free a) (is_bound l b) =
        order m n _ _ (element_at_Free m a) (element_at_Bound n l b) (element_order-Free-Bound m (8589934591 - n))
    by_kinds (is_free a) (is_cap b) = order m n _ _ (element_at_Free m a) (element_at_Cap n b) refl
    by_kinds (is_free a) (is_hole b) = order m n _ _ (element_at_Free m a) (element_at_Hole n b) refl
    by_kinds (is_bound k a) (is_free b) = absurd (omega (arith, less, k, b))
    by_kinds (is_bound k a) (is_bound l b) =
        order m n _ _ (element_at_Bound m k a) (element_at_Bound n l b)
        (element_order-Bound (8589934591 - n) (8589934591 - m) (omega (arith, less, a, b)))
    by_kinds (is_bound k a) (is_cap b) =
        order m n _ _ (element_at_Bound m k a) (element_at_Cap n b) (element_order-Bound-Cap (8589934591 - m))
    by_kinds (is_bound k a) (is_hole b) = order m n _ _ (element_at_Bound m k a) (element_at_Hole n b) refl
    by_kinds (is_cap a) (is_free b) = absurd (omega (arith, less, a, b))
    by_kinds (is_cap a) (is_bound l b) = absurd (omega (arith, less, a, b))
    by_kinds (is_cap a) (is_cap b) = absurd (omega (arith, less, a, b))
    by_kinds (is_cap a) (is_hole b) =
        order m n _ _ (element_at_Cap m a) (element_at_Hole n b) (element_order-Cap-Hole (n - 8589934593))
    by_kinds (is_hole a) (is_free b) = absurd (omega (arith, less, a, b))
    by_kinds (is_hole a) (is_bound l b) = absurd (omega (arith, less, a, b))
    by_kinds (is_hole a) (is_cap b) = absurd (omega (arith, less, a, b))
    by_kinds (is_hole a) (is_hole b) =
        order m n _ _ (element_at_Hole m a) (element_at_Hole n b)
        (element_order-Hole (m - 8589934593) (n - 8589934593) (omega (arith, less, a)))

-- elements with one element have one number
pub element_at-same : (m n : ℕ) → element_at m ≡ element_at n → m ≡ n
element_at-same m n same =
    elim (cases_order m n) [
      | inl is ↦ is
      | inr other ↦ absurd (elim other [
        | inl less ↦
            both_ways _ (same_element-below _ _ (element_at-rises m n less))
            (sym (ap (same_element (element_at m)) same) ∙ same_element-itself _)
        | inr more ↦
            both_ways _ (same_element-below _ _ (element_at-rises n m more))
            (ap (same_element (element_at n)) same ∙ same_element-itself _)
      ])
    ]
