-- How the local variables of both numberings stand in a text.
use Rattle.std.proofs.Common.{◌≡◌, ℕ, ◌+◌, ◌-◌, ◌^◌, ◌<◌, ◌≤◌, Bool, true, false, List, [], ◌∷◌, ◌++◌, Option, Some, None, length, decimal, refl, sym, ap, subst, ◌∙◌, arith, ⊎_elim}
use Rattle.std.specs.Prelude.{nat_lt}
use Rattle.std.specs.Ordering.{ordering_reverse}
use Rattle.std.proofs.lemmas.Bool.{cases_lt, true≢false, lt-ltb}
use Rattle.std.proofs.lemmas.Bool.Decides.{Decides-ltb, nat_tests}
use Rattle.std.specs.declared.cmp.Ordering.{Ordering}
use Rattle.std.specs.declared.cmp.Ordering.TheVariants.{Less, Equal, Greater}
use Rattle.cc_capture.specs.declared.var.Var.{Var}
use Rattle.cc_capture.specs.declared.var.Var.TheVariants.{Bound, Free}
use Rattle.cc_capture.specs.declared.var.Elem.{Elem}
use Rattle.cc_capture.specs.declared.var.Elem.TheVariants.{Var as Variable, Cap, Hole}
use Rattle.cc_capture.specs.Elements.{element_order}
use Rattle.cc_capture.specs.ElementOrder.{element_order-total, element_order-itself, element_order-Free, element_order-Bound}
use Rattle.cc_words.specs.Words.{number_of, ◌>>=◌}
use Rattle.cc_words.proofs.Steps.{some_from_bind}
use Rattle.cc_words.proofs.Numbers.{number_of_gives, number_of-decimal}
use Rattle.cc_print.specs.TypeTexts.{numbered, variable_text}
use Rattle.cc_certificate_text.specs.LocalNames.{local_position, local_element, IsNamed, IsNamedElement, IsLocal}
use Rattle.cc_certificate_text.specs.Reading.{Locals, Printed, Counted, bound_where, local_at, local_of, is_less, stands_before}

-- the variable as it is written
abbrev pub seen : Locals → ℕ → Var → Var
seen Printed names v = local_position names v
seen Counted names v = v

abbrev pub seen_element : Locals → ℕ → Elem → Elem
seen_element locals names (Variable v) = Variable (seen locals names v)
seen_element locals names Cap = Cap
seen_element locals names (Hole hole) = Hole hole

-- the position, where it is that of a name, or else the local variable
abbrev pub unplaced : Bool → ℕ → ℕ → Var
unplaced true names position = Free position
unplaced false names position = Bound (position - names)

-- back from there
abbrev pub unseen : Locals → ℕ → Var → Var
unseen Printed names (Bound index) = Bound index
unseen Printed names (Free position) = unplaced (nat_lt position names) names position
unseen Counted names v = v

abbrev pub unseen_element : Locals → ℕ → Elem → Elem
unseen_element locals names (Variable v) = Variable (unseen locals names v)
unseen_element locals names Cap = Cap
unseen_element locals names (Hole hole) = Hole hole

-- a local variable may stand there
abbrev pub MayStand : Locals → ℕ → ℕ → Type 0
MayStand Printed depth number = number < 2 ^ 32
MayStand Counted depth index = (index < depth) × (depth - 1 - index < 2 ^ 32)

-- the number that is written
abbrev pub written_number : Locals → ℕ → ℕ → ℕ
written_number Printed depth number = number
written_number Counted depth index = depth - 1 - index

pub written_low : (locals : Locals) (depth i : ℕ) → MayStand locals depth i → written_number locals depth i < 2 ^ 32
written_low Printed depth i h = h
written_low Counted depth i h = h.1

bound_where_gives : (test : Bool) (index : ℕ) (v : Var) → bound_where test index ≡ Some v → (test ≡ true) × (v ≡ Bound index)
bound_where_gives true index v h = (refl, cc)
bound_where_gives false index v h = cc

local_at_gives : (locals : Locals) (depth number : ℕ) (v : Var) → number ≤ 4294967295 → local_at locals depth number ≡ Some v
    → (i : ℕ) × (v ≡ Bound i) × MayStand locals depth i × (number ≡ written_number locals depth i)
local_at_gives Printed depth number v low h = (number, cc, omega arith, refl)
local_at_gives Counted depth number v low h =
    let found = bound_where_gives (nat_lt number depth) (depth - 1 - number) v h in
    let below : number < depth = (Decides-ltb number depth).0 found.0 in
    (depth - 1 - number, found.1, (omega (arith, below), omega (arith, below, low)), omega (arith, below))

pub local_of_gives : (locals : Locals) (depth : ℕ) (digits : List ℕ) (v : Var) → local_of locals depth digits ≡ Some v
    → (i : ℕ) × (v ≡ Bound i) × MayStand locals depth i × (digits ≡ decimal (written_number locals depth i))
unfolding local_of
local_of_gives locals depth digits v h =
    let step = some_from_bind (number_of 4294967295 digits) (local_at locals depth) v h in
    let number = number_of_gives 4294967295 digits step.0 (omega arith) step.1 in
    let found = local_at_gives locals depth step.0 v number.0 step.2 in
    (found.0, found.1, found.2, number.1 ∙ ap decimal found.3)

local_at-number : (locals : Locals) (depth i : ℕ) → MayStand locals depth i
    → local_at locals depth (written_number locals depth i) ≡ Some (Bound i)
local_at-number Printed depth i h = refl
local_at-number Counted depth i h =
    let below : depth - 1 - i < depth = omega (arith, h.0) in
    let back : depth - 1 - (depth - 1 - i) ≡ i = omega (arith, h.0) in
    rw ((Decides-ltb (depth - 1 - i) depth).1 below) (ap (λ n. Some (Bound n)) back)

pub local_of-decimal : (locals : Locals) (depth i : ℕ) → MayStand locals depth i
    → local_of locals depth (decimal (written_number locals depth i)) ≡ Some (Bound i)
unfolding local_of
local_of-decimal locals depth i h =
    let low = written_low locals depth i h in
    rw (number_of-decimal 4294967295 (written_number locals depth i) (omega arith) (omega (arith, low)))
    (local_at-number locals depth i h)

not_below : (a b : ℕ) → b ≤ a → nat_lt a b ≡ false
not_below a b h = grind (arith, nat_tests)

pub bound_text : (locals : Locals) (names : List (List ℕ)) (depth : ℕ) (prefix : List ℕ) (i : ℕ)
    → variable_text names depth prefix (seen locals (length names) (Bound i))
    ≡ prefix ++ decimal (written_number locals depth i)
bound_text Printed names depth prefix i =
    rw (not_below (length names + i) (length names) (omega arith))
    (ap (λ n. prefix ++ decimal n) (let e : length names + i - length names ≡ i = omega arith in e))
bound_text Counted names depth prefix i = refl

pub unseen-seen : (locals : Locals) (local : ℕ → Type 0) (names : ℕ) (e : Elem) → IsNamedElement local names e
    → unseen_element locals names (seen_element locals names e) ≡ e
unseen-seen Printed local names (Variable (Bound i)) h =
    rw (not_below (names + i) names (omega arith))
    (ap (λ n. Variable (Bound n)) (let e : names + i - names ≡ i = omega arith in e))
unseen-seen Printed local names (Variable (Free p)) h = rw ((Decides-ltb p names).1 h) refl
unseen-seen Counted local names (Variable v) h = refl
unseen-seen locals local names Cap h = refl
unseen-seen locals local names (Hole hole) h = refl

pub less_from : (o : Ordering) → is_less o ≡ true → o ≡ Less
less_from Less h = refl
less_from Equal h = absurd (true≢false (sym h))
less_from Greater h = absurd (true≢false (sym h))

-- the one order of two elements tells the other
is_less-back : (a b : Elem) → element_order b a ≡ Less → is_less (element_order a b) ≡ false
is_less-back a b h = ap is_less (element_order-total.antisymm a b ∙ ap ordering_reverse h)

free_order : (x y : ℕ) → is_less (element_order (Variable (Free x)) (Variable (Free y))) ≡ nat_lt x y
free_order x y =
    ⊎_elim (λ less. ap is_less (element_order-Free x y less) ∙ sym ((Decides-ltb x y).1 less))
    (λ above. ⊎_elim
    (λ less. is_less-back (Variable (Free x)) (Variable (Free y)) (element_order-Free y x less) ∙ sym (not_below x y above))
    (λ below. (let same : x ≡ y = omega (arith, above, below) in
    ap (λ z. is_less (element_order (Variable (Free x)) (Variable (Free z)))) (sym same)
    ∙ (ap is_less (element_order-itself (Variable (Free x))) ∙ sym (not_below x y above)))) (cases_lt y x))
    (cases_lt x y)

bound_order : (x y : ℕ) → is_less (element_order (Variable (Bound x)) (Variable (Bound y))) ≡ nat_lt y x
bound_order x y =
    ⊎_elim (λ less. ap is_less (element_order-Bound y x less) ∙ sym ((Decides-ltb y x).1 less))
    (λ above. ⊎_elim
    (λ less. is_less-back (Variable (Bound x)) (Variable (Bound y)) (element_order-Bound x y less) ∙ sym (not_below y x above))
    (λ below. (let same : x ≡ y = omega (arith, above, below) in
    ap (λ z. is_less (element_order (Variable (Bound x)) (Variable (Bound z)))) (sym same)
    ∙ (ap is_less (element_order-itself (Variable (Bound x))) ∙ sym (not_below y x above)))) (cases_lt x y))
    (cases_lt y x)

shifted : (n a b : ℕ) → nat_lt (n + a) (n + b) ≡ nat_lt a b
shifted n a b = grind (arith, nat_tests)

-- the order in a text is the order of the elements as they are written
pub order_in_text : (locals : Locals) (local : ℕ → Type 0) (names : ℕ) (a b : Elem)
    → IsNamedElement local names a → IsNamedElement local names b
    → stands_before locals a b ≡ is_less (element_order (seen_element locals names a) (seen_element locals names b))
unfolding element_order
order_in_text Printed local names (Variable (Bound a)) (Variable (Bound b)) h k =
    sym (free_order (names + a) (names + b) ∙ shifted names a b)
order_in_text Printed local names (Variable (Bound a)) (Variable (Free b)) h k =
    sym (free_order (names + a) b ∙ not_below (names + a) b (omega (arith, k)))
order_in_text Printed local names (Variable (Bound a)) Cap h k = refl
order_in_text Printed local names (Variable (Free a)) (Variable (Bound b)) h k =
    sym (free_order a (names + b) ∙ (Decides-ltb a (names + b)).1 (omega (arith, h)))
order_in_text Printed local names (Variable (Free a)) (Variable (Free b)) h k = refl
order_in_text Printed local names (Variable (Free a)) Cap h k = refl
order_in_text Printed local names Cap (Variable (Bound b)) h k = refl
order_in_text Printed local names Cap (Variable (Free b)) h k = refl
order_in_text Printed local names Cap Cap h k = refl
order_in_text Counted local names (Variable (Bound a)) (Variable (Bound b)) h k = sym (bound_order a b)
order_in_text Counted local names (Variable (Bound a)) (Variable (Free b)) h k = refl
order_in_text Counted local names (Variable (Bound a)) Cap h k = refl
order_in_text Counted local names (Variable (Free a)) (Variable (Bound b)) h k = refl
order_in_text Counted local names (Variable (Free a)) (Variable (Free b)) h k = refl
order_in_text Counted local names (Variable (Free a)) Cap h k = refl
order_in_text Counted local names Cap (Variable (Bound b)) h k = refl
order_in_text Counted local names Cap (Variable (Free b)) h k = refl
order_in_text Counted local names Cap Cap h k = refl
order_in_text locals local names (Hole hole) b h k = absurd h
order_in_text locals local names a (Hole hole) h k = absurd k
