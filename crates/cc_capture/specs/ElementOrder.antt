-- The order of elements is total, and only one and the same element compares as equal.
use Rattle.std.proofs.lemmas.Bool.{lt-ltb}
use Rattle.std.proofs.Common.{◌≡◌, ◌↔◌, ℕ, ◌<◌, true, false, refl, sym, ap, ◌∙◌, subst, arith}
use Rattle.std.specs.declared.cmp.Ordering.{Ordering}
use Rattle.std.specs.declared.cmp.Ordering.TheVariants.{Less, Equal, Greater}
use Rattle.std.specs.Cmp.{IsTotalOrder}
use Rattle.std.specs.Ordering.{nat_cmp, is_eq, MatchOrdering, ordering_then, ordering_reverse}
use Rattle.std.proofs.lemmas.Cmp.{nat_cmp_total, on_total, then_total, back_total, ranked, tied_itself}
use Rattle.cc_capture.specs.declared.var.Var.TheVariants.{Bound, Free}
use Rattle.cc_capture.specs.declared.var.Elem.{Elem}
use Rattle.cc_capture.specs.declared.var.Elem.TheVariants.{Var as Variable, Cap, Hole}
use Rattle.cc_capture.specs.Elements.{kind_number, rising_number, falling_number, element_order, same_element}

pub element_order-total : IsTotalOrder element_order
unfolding element_order
element_order-total =
    then_total (on_total kind_number nat_cmp_total)
    (then_total (on_total rising_number nat_cmp_total) (back_total (on_total falling_number nat_cmp_total)))

nat_cmp-Equal : (m n : ℕ) → nat_cmp m n ≡ Equal → m ≡ n
nat_cmp-Equal m n e = subst (λ o. MatchOrdering o (m < n) (m ≡ n) (n < m)) e (ranked m n (nat_cmp m n) refl)

then-Equal : (o p : Ordering) → ordering_then o p ≡ Equal → (o ≡ Equal) × (p ≡ Equal)
then-Equal Less p e = cc
then-Equal Equal p e = (refl, e)
then-Equal Greater p e = cc

three_numbers : (a b : Elem) → kind_number a ≡ kind_number b → rising_number a ≡ rising_number b
    → falling_number a ≡ falling_number b → a ≡ b
three_numbers (Variable (Free p)) (Variable (Free q)) k r f = ap (λ n. Variable (Free n)) r
three_numbers (Variable (Bound i)) (Variable (Bound j)) k r f = ap (λ n. Variable (Bound n)) f
three_numbers Cap Cap k r f = refl
three_numbers (Hole m) (Hole n) k r f = ap (λ n. Hole n) r
three_numbers (Variable (Free p)) (Variable (Bound j)) k r f = absurd (omega arith)
three_numbers (Variable (Free p)) Cap k r f = absurd (omega arith)
three_numbers (Variable (Free p)) (Hole n) k r f = absurd (omega arith)
three_numbers (Variable (Bound i)) (Variable (Free q)) k r f = absurd (omega arith)
three_numbers (Variable (Bound i)) Cap k r f = absurd (omega arith)
three_numbers (Variable (Bound i)) (Hole n) k r f = absurd (omega arith)
three_numbers Cap (Variable (Free q)) k r f = absurd (omega arith)
three_numbers Cap (Variable (Bound j)) k r f = absurd (omega arith)
three_numbers Cap (Hole n) k r f = absurd (omega arith)
three_numbers (Hole m) (Variable (Free q)) k r f = absurd (omega arith)
three_numbers (Hole m) (Variable (Bound j)) k r f = absurd (omega arith)
three_numbers (Hole m) Cap k r f = absurd (omega arith)

pub element_order-Equal : (a b : Elem) → element_order a b ≡ Equal → a ≡ b
unfolding element_order
element_order-Equal a b e =
    let first = then-Equal _ _ e in
    let second = then-Equal _ _ first.1 in
    three_numbers a b (nat_cmp-Equal _ _ first.0) (nat_cmp-Equal _ _ second.0) (sym (nat_cmp-Equal _ _ second.1))

pub element_order-itself : (a : Elem) → element_order a a ≡ Equal
element_order-itself = tied_itself element_order-total

-- the order of two elements decides whether they are one
pub same_element-true : (a b : Elem) → same_element a b ≡ true → a ≡ b
unfolding same_element
same_element-true a b e =
    elim (element_order a b) as (λ o. element_order a b ≡ o → is_eq o ≡ true → a ≡ b) [
      | Less ↦ λ _ t. cc
      | Equal ↦ λ same _. element_order-Equal a b same
      | Greater ↦ λ _ t. cc
    ] refl e

pub same_element-itself : (a : Elem) → same_element a a ≡ true
unfolding same_element
same_element-itself a = ap is_eq (element_order-itself a)

-- an element is not one that it comes before
pub same_element-below : (a b : Elem) → element_order a b ≡ Less → same_element a b ≡ false
unfolding same_element
same_element-below a b e = ap is_eq e

pub element_order-back : (a b : Elem) → element_order a b ≡ Greater → element_order b a ≡ Less
element_order-back a b e = element_order-total.antisymm b a ∙ ap ordering_reverse e

pub element_order-is_Equal : (a b : Elem) → (element_order a b ≡ Equal) ↔ (a ≡ b)
element_order-is_Equal a b = (element_order-Equal a b, λ e. ap (element_order a) (sym e) ∙ element_order-itself a)

pub same_element-decides : (a b : Elem) → (same_element a b ≡ true) ↔ (a ≡ b)
same_element-decides a b = (same_element-true a b, λ e. ap (same_element a) (sym e) ∙ same_element-itself a)

-- the order within a kind, and of the kinds
pub element_order-Free : (p q : ℕ) → p < q → element_order (Variable (Free p)) (Variable (Free q)) ≡ Less
unfolding element_order
element_order-Free p q h = rw (lt-ltb p q h) refl

pub element_order-Bound : (i j : ℕ) → i < j → element_order (Variable (Bound j)) (Variable (Bound i)) ≡ Less
unfolding element_order
element_order-Bound i j h = rw (lt-ltb i j h) refl

pub element_order-Hole : (m n : ℕ) → m < n → element_order (Hole m) (Hole n) ≡ Less
unfolding element_order
element_order-Hole m n h = rw (lt-ltb m n h) refl

pub element_order-Free-Bound : (p i : ℕ) → element_order (Variable (Free p)) (Variable (Bound i)) ≡ Less
unfolding element_order
element_order-Free-Bound p i = refl

pub element_order-Bound-Cap : (i : ℕ) → element_order (Variable (Bound i)) Cap ≡ Less
unfolding element_order
element_order-Bound-Cap i = refl

pub element_order-Cap-Hole : (n : ℕ) → element_order Cap (Hole n) ≡ Less
unfolding element_order
element_order-Cap-Hole n = refl
