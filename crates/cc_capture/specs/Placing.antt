-- A list in which an element is placed still rises, and there is one proof at most that a list rises.
use Rattle.std.proofs.Common.{◌≡◌, List, [], ◌∷◌, refl}
use Rattle.std.specs.declared.cmp.Ordering.{Ordering}
use Rattle.std.specs.declared.cmp.Ordering.TheVariants.{Less, Equal, Greater}
use Rattle.std.specs.Ordering.{match_ordering, Ordering-set}
use Rattle.cc_capture.specs.declared.var.Elem.{Elem}
use Rattle.cc_capture.specs.Elements.{element_order}
use Rattle.cc_capture.specs.Rising.{IsBelow, IsBelowAll, IsRising, placed}
use Rattle.cc_capture.specs.ElementOrder.{element_order-total, element_order-back}

pub IsBelow-trans : (x y z : Elem) → IsBelow x y → IsBelow y z → IsBelow x z
IsBelow-trans = element_order-total.trans

pub IsBelowAll-trans : (x y : Elem) (zs : List Elem) → IsBelow x y → IsBelowAll y zs → IsBelowAll x zs
IsBelowAll-trans x y [] p a = tt
IsBelowAll-trans x y (z ∷ zs) p a = (IsBelow-trans x y z p a.0, IsBelowAll-trans x y zs p a.1)

pub IsBelowAll-prop : (x : Elem) (ys : List Elem) → IsProp (IsBelowAll x ys)
IsBelowAll-prop x [] = hlevel
IsBelowAll-prop x (y ∷ ys) = hlevel (Ordering-set, IsBelowAll-prop x ys)

-- there is at most one proof that a list rises
pub IsRising-prop : (xs : List Elem) → IsProp (IsRising xs)
IsRising-prop [] = hlevel
IsRising-prop (x ∷ xs) = hlevel (IsBelowAll-prop x xs, IsRising-prop xs)

pub IsBelowAll-placed : (z x : Elem) (ys : List Elem) → IsBelow z x → IsBelowAll z ys
    → IsBelowAll z (placed x ys)
unfolding placed
IsBelowAll-placed z x [] p a = (p, tt)
IsBelowAll-placed z x (y ∷ ys) p a =
    elim (element_order x y) as (λ o. IsBelowAll z (match_ordering o (x ∷ y ∷ ys) (y ∷ ys) (y ∷ placed x ys))) [
      | Less ↦ (p, a)
      | Equal ↦ a
      | Greater ↦ (a.0, IsBelowAll-placed z x ys p a.1)
    ]

pub IsRising-placed : (x : Elem) (ys : List Elem) → IsRising ys → IsRising (placed x ys)
unfolding placed
IsRising-placed x [] r = (tt, tt)
IsRising-placed x (y ∷ ys) r =
    let left : Ordering → List Elem = λ o. match_ordering o (x ∷ y ∷ ys) (y ∷ ys) (y ∷ placed x ys) in
    elim (element_order x y) as (λ o. element_order x y ≡ o → IsRising (left o)) [
      | Less ↦ λ e. ((e, IsBelowAll-trans x y ys e r.0), r)
      | Equal ↦ λ _. r
      | Greater ↦ λ e. (IsBelowAll-placed y x ys (element_order-back x y e) r.0, IsRising-placed x ys r.1)
    ] refl
