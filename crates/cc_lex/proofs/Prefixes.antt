-- The longest front of a list that passes a test.
use Rattle.std.proofs.Common.{◌≡◌, ℕ, ◌+◌, ◌≤◌, Bool, true, false, cond, List, [], ◌∷◌, ◌++◌, length, take, drop, refl, ap, arith, one-add}
use Rattle.std.specs.List.{list_all, prefix_len}
use Rattle.std.proofs.lemmas.List.Sums.{prefix_len-le-length}
use Rattle.cc_base.specs.Names.{first_passes}
use Rattle.cc_lex.proofs.Booleans.{both, both_true}

pub prefix_within : (p : ℕ → Bool) (cs : List ℕ) (n : ℕ) → n ≡ prefix_len p cs → n ≤ length cs
prefix_within p cs n e = rw e (prefix_len-le-length p cs)

all-step : (p : ℕ → Bool) (c : ℕ) (cs : List ℕ) (b : Bool) → p c ≡ b → list_all p (take (prefix_len p cs) cs) ≡ true → list_all p (take (cond b (1 + prefix_len p cs) 0) (c ∷ cs)) ≡ true
all-step p c cs true h k = rw one-add (both_true (p c) _ h k)
all-step p c cs false h k = refl

-- the front passes
pub prefix-passes : (p : ℕ → Bool) (cs : List ℕ) → list_all p (take (prefix_len p cs) cs) ≡ true
prefix-passes p [] = refl
prefix-passes p (c ∷ cs) = all-step p c cs (p c) refl (prefix-passes p cs)

ends-step : (p : ℕ → Bool) (c : ℕ) (cs : List ℕ) (b : Bool) → p c ≡ b → first_passes p (drop (prefix_len p cs) cs) ≡ false → first_passes p (drop (cond b (1 + prefix_len p cs) 0) (c ∷ cs)) ≡ false
ends-step p c cs true h k = rw one-add k
ends-step p c cs false h k = h

-- and what comes after it does not begin with one that passes
pub prefix-ends : (p : ℕ → Bool) (cs : List ℕ) → first_passes p (drop (prefix_len p cs) cs) ≡ false
prefix-ends p [] = refl
prefix-ends p (c ∷ cs) = ends-step p c cs (p c) refl (prefix-ends p cs)

-- a front that passes, and more
pub prefix-append : (p : ℕ → Bool) (cs after : List ℕ) → list_all p cs ≡ true → prefix_len p (cs ++ after) ≡ length cs + prefix_len p after
prefix-append p [] after h = omega arith
prefix-append p (c ∷ cs) after h =
    let each = both (p c) (list_all p cs) h in
    let rest = prefix-append p cs after each.1 in
    let step : prefix_len p (c ∷ (cs ++ after)) ≡ 1 + prefix_len p (cs ++ after) = ap (λ b. cond b (1 + prefix_len p (cs ++ after)) 0) each.0 in
    omega arith

pub prefix-at_least : (p : ℕ → Bool) (cs after : List ℕ) → list_all p cs ≡ true → length cs ≤ prefix_len p (cs ++ after)
prefix-at_least p cs after h =
    let all = prefix-append p cs after h in
    omega arith

stops : (p : ℕ → Bool) (cs : List ℕ) → first_passes p cs ≡ false → prefix_len p cs ≡ 0
stops p [] h = refl
stops p (c ∷ cs) h = ap (λ b. cond b (1 + prefix_len p cs) 0) h

-- a front that passes and is followed by none that does
pub prefix-exact : (p : ℕ → Bool) (cs after : List ℕ) → list_all p cs ≡ true → first_passes p after ≡ false → prefix_len p (cs ++ after) ≡ length cs
prefix-exact p cs after h k =
    let all = prefix-append p cs after h in
    let none = stops p after k in
    omega arith
