-- Searches in ranges, and elements of lists.
use Rattle.std.proofs.Common.{◌≡◌, ◌<◌, ◌≤◌, ◌+◌, ◌⊎◌, arith, ℕ, zero, suc, Bool, true, false, cond, ◌||◌, List, [], ◌∷◌, Some, None, inl, inr, refl, sym, ap, ◌∙◌, subst}
use Rattle.std.specs.Prelude.{find, Contains}
use Rattle.std.specs.List.{AllByRecursion, list_any, range_with_len}
use Rattle.std.proofs.lemmas.Bool.{cases_eq, or_cases, or_left, or_right}

some_is : {A : Type 0} {a b : A} → Some a ≡ Some b → a ≡ b
some_is e = cc

-- the first of a range that passes a test
module _ (test : ℕ → Bool) where
  nothing_from : (from n k : ℕ) (b : Bool) → test from ≡ b → (find test (range_with_len (from + 1) n) ≡ None → from + 1 ≤ k → k < from + 1 + n → test k ≡ false)
      → cond b (Some from) (find test (range_with_len (from + 1) n)) ≡ None → from ≤ k → k < from + (n + 1) → test k ≡ false
  nothing_from from n k true is later e low high = cc
  nothing_from from n k false is later e low high =
      elim (cases_eq k from) as (λ _. test k ≡ false) [
        | inl same ↦ ap test same ∙ is
        | inr other ↦ later e (omega arith) (omega arith)
      ]

  pub nothing_found : (from n : ℕ) → find test (range_with_len from n) ≡ None → (k : ℕ) → from ≤ k → k < from + n → test k ≡ false
  nothing_found from zero e k low high = absurd (omega arith)
  nothing_found from (suc n) e k low high =
      nothing_from from n k (test from) refl (λ none above below. nothing_found (from + 1) n none k above below) e low (omega arith)

  pub finds_nothing : (from n : ℕ) → ((k : ℕ) → from ≤ k → k < from + n → test k ≡ false) → find test (range_with_len from n) ≡ None
  finds_nothing from zero all = refl
  finds_nothing from (suc n) all =
      ap (λ b. cond b (Some from) (find test (range_with_len (from + 1) n))) (all from (omega arith) (omega arith))
      ∙ finds_nothing (from + 1) n (λ k low high. all k (omega arith) (omega arith))

  -- the number is the first of so many from a number on that passes the test
  pub record IsFirst (from n found : ℕ) : Type 0 where
    pub low : from ≤ found
    pub high : found < from + n
    pub passes : test found ≡ true
    pub none : (k : ℕ) → from ≤ k → k < found → test k ≡ false

  first_from : (from n found : ℕ) (b : Bool) → test from ≡ b → (find test (range_with_len (from + 1) n) ≡ Some found → IsFirst (from + 1) n found)
      → cond b (Some from) (find test (range_with_len (from + 1) n)) ≡ Some found → IsFirst from (suc n) found
  first_from from n found true is later e =
      let same : from ≡ found = some_is e in
      record { low = omega arith; high = omega arith; passes = ap test (sym same) ∙ is; none = λ k low high. absurd (omega arith) }
  first_from from n found false is later e =
      let it = later e in
      record {
        low = let low = it.low in omega arith;
        high = let high = it.high in omega arith;
        passes = it.passes;
        none = λ k low high. elim (cases_eq k from) as (λ _. test k ≡ false) [ inl same ↦ ap test same ∙ is | inr other ↦ it.none k (omega arith) high ];
      }

  pub first_found : (from n found : ℕ) → find test (range_with_len from n) ≡ Some found → IsFirst from n found
  first_found from zero found e = cc
  first_found from (suc n) found e = first_from from n found (test from) refl (first_found (from + 1) n found) e

  pub finds_first : (from n found : ℕ) → IsFirst from n found → find test (range_with_len from n) ≡ Some found
  finds_first from zero found first = absurd (let low = first.low in let high = first.high in omega arith)
  finds_first from (suc n) found first =
      elim (cases_eq found from) as (λ _. cond (test from) (Some from) (find test (range_with_len (from + 1) n)) ≡ Some found) [
        | inl same ↦
            ap (λ b. cond b (Some from) (find test (range_with_len (from + 1) n))) (ap test (sym same) ∙ first.passes) ∙ ap (λ k. Some k) (sym same)
        | inr other ↦
            (let low = first.low in let high = first.high in
            ap (λ b. cond b (Some from) (find test (range_with_len (from + 1) n))) (first.none from (omega arith) (omega arith))
            ∙ finds_first (from + 1) n found (record {
              low = omega arith;
              high = omega arith;
              passes = first.passes;
              none = λ k above below. first.none k (omega arith) below;
            }))
      ]

-- elements
pub first_or_other : {A : Type 0} (x y : A) (xs : List A) → Contains (x ∷ xs) y → (y ≡ x) ⊎ Contains xs y
first_or_other x y xs (zero, within, e) = inl (sym e)
first_or_other x y xs (suc k, within, e) = inr (k, omega (arith, within), e)

pub in_longer : {A : Type 0} (x y : A) (xs : List A) → (y ≡ x) ⊎ Contains xs y → Contains (x ∷ xs) y
in_longer x y xs (inl e) = (zero, omega arith, sym e)
in_longer x y xs (inr it) = (suc it.0, (let within = it.1 in omega arith), it.2)

pub in_none : {A : Type 0} (y : A) → Contains [] y → ⊥
in_none y it = let within = it.1 in omega arith

pub all_at : {A : Type 0} (P : A → Type 0) (xs : List A) → AllByRecursion P xs → (x : A) → Contains xs x → P x
all_at P [] all x it = absurd (in_none x it)
all_at P (y ∷ xs) all x it =
    elim (first_or_other y x xs it) as (λ _. P x) [ inl same ↦ subst P (sym same) all.0 | inr later ↦ all_at P xs all.1 x later ]

pub any_of : {A : Type 0} (test : A → Bool) (xs : List A) → list_any test xs ≡ true → (x : A) × Contains xs x × (test x ≡ true)
any_of test [] e = cc
any_of test (x ∷ xs) e =
    elim (or_cases (test x) (list_any test xs) e) as (λ _. (y : _) × Contains (x ∷ xs) y × (test y ≡ true)) [
      | inl first ↦ (x, in_longer x x xs (inl refl), first)
      | inr later ↦ (let it = any_of test xs later in (it.0, in_longer x it.0 xs (inr it.1), it.2))
    ]

pub any_from : {A : Type 0} (test : A → Bool) (xs : List A) (x : A) → Contains xs x → test x ≡ true → list_any test xs ≡ true
any_from test [] x it e = absurd (in_none x it)
any_from test (y ∷ xs) x it e =
    elim (first_or_other y x xs it) as (λ _. (test y || list_any test xs) ≡ true) [
      | inl same ↦ or_left (test y) (list_any test xs) (ap test (sym same) ∙ e)
      | inr later ↦ or_right (test y) (list_any test xs) (any_from test xs x later e)
    ]

pub list_any-congruent : {A : Type 0} (one other : A → Bool) → ((x : A) → one x ≡ other x) → (xs : List A) → list_any one xs ≡ list_any other xs
list_any-congruent one other same [] = refl
list_any-congruent one other same (x ∷ xs) = λ i. same x i || list_any-congruent one other same xs i
