-- What is so for each number of a range, by computations over parts of it.
use Rattle.std.proofs.Common.{◌≡◌, ◌∙◌, ℕ, ◌+◌, ◌-◌, ◌<◌, ◌≤◌, List, map, get_or, sym, ap, inl, inr, arith}
use Rattle.std.proofs.lemmas.Bool.{cases_lt}
use Rattle.std.proofs.lemmas.List.FromFn.{get_or-map-range_with_len}
use Rattle.std.specs.List.{range_with_len}

-- two functions are the same at each number where their lists are
pub same_each : {A : Type 0} (f g : ℕ → A) (a n : ℕ) → map f (range_with_len a n) ≡ map g (range_with_len a n)
    → (k : ℕ) → a ≤ k → k < a + n → f k ≡ g k
same_each f g a n same k some few =
    sym (get_or-map-range_with_len f a n (k - a) k (f k) (omega arith) (omega arith))
    ∙ ap (λ xs. get_or xs (k - a) (f k)) same
    ∙ get_or-map-range_with_len g a n (k - a) k (f k) (omega arith) (omega arith)

-- two functions are the same at fifty numbers from this one on
abbrev pub AreSame : {A : Type 0} → (ℕ → A) → (ℕ → A) → ℕ → Type 0
AreSame f g a = map f (range_with_len a 50) ≡ map g (range_with_len a 50)

-- and so at two hundred
pub from_parts : {A : Type 0} (f g : ℕ → A) → AreSame f g 1 → AreSame f g 51 → AreSame f g 101 → AreSame f g 151
    → (k : ℕ) → 1 ≤ k → k ≤ 200 → f k ≡ g k
from_parts f g first second third fourth k some few =
    elim (cases_lt k 101) [
      | inl low ↦ elim (cases_lt k 51) [
        | inl lowest ↦ same_each f g 1 50 first k some (omega arith)
        | inr above ↦ same_each f g 51 50 second k (omega arith) (omega arith)
      ]
      | inr high ↦ elim (cases_lt k 151) [
        | inl below ↦ same_each f g 101 50 third k (omega arith) (omega arith)
        | inr highest ↦ same_each f g 151 50 fourth k (omega arith) (omega arith)
      ]
    ]
