-- How many entries are older than all with holes, in two contexts of which the oldest entries are alike.
use Rattle.std.proofs.Common.{◌≡◌, ◌⊎◌, ℕ, zero, suc, ◌<◌, ◌≤◌, Bool, true, false, ◌||◌, cond, [], ◌∷◌, length}
use Rattle.std.proofs.Common.{Option, Some, None, inl, inr, refl, sym, ap, ◌∙◌, arith}
use Rattle.std.specs.Prelude.{nat_lt}
use Rattle.std.proofs.lemmas.Bool.{cases_eq, lt-ltb, ltb-false, le-ltb}
use Rattle.cc_core.specs.ClosedEntries.{is_open, closed_entries}
use Rattle.cc_core.specs.Contexts.{Bind, Context, lookup}
use Rattle.cc_core.proofs.Lookups.{lookup-newest, lookup-other}

-- how many of the first so many numbers are less than all of which the test says yes
abbrev scan : (ℕ → Bool) → ℕ → ℕ
scan test zero = zero
scan test (suc n) = cond (nat_lt (scan test n) n || test n) (scan test n) (suc n)

scan_within : (test : ℕ → Bool) (n : ℕ) → scan test n ≤ n
scan_within test zero = omega arith
scan_within test (suc n) =
    let rest = scan_within test n in
    elim (nat_lt (scan test n) n || test n) as (λ b. cond b (scan test n) (suc n) ≤ suc n) [
      | true ↦ omega (arith, rest)
      | false ↦ omega arith
    ]

scan_alike : (one other : ℕ → Bool) (n : ℕ) → ((p : ℕ) → p < n → one p ≡ other p) → scan one n ≡ scan other n
scan_alike one other zero alike = refl
scan_alike one other (suc n) alike =
    let rest = scan_alike one other n (λ p h. alike p (omega (arith, h))) in
    let last = alike n (omega arith) in
    (λ i. cond (nat_lt (rest i) n || last i) (rest i) (suc n))

-- Of fewer numbers it is the same, or all of these.
abbrev Shorter : (ℕ → Bool) → ℕ → ℕ → Type 0
Shorter test n m = (scan test m ≡ scan test n) ⊎ ((n ≤ scan test m) × (scan test n ≡ n))

shorter : (test : ℕ → Bool) (n m : ℕ) → n ≤ m → Shorter test n m
shorter test n zero within = let same : n ≡ zero = omega (arith, within) in inl (ap (scan test) (sym same))
shorter test n (suc m) within =
    elim (cases_eq n (suc m)) as (λ _. Shorter test n (suc m)) [
      | inl same ↦ inl (ap (scan test) (sym same))
      | inr other ↦
          let less : n ≤ m = omega (arith, within, other) in
          by_last less (shorter test n m less) (nat_lt (scan test m) m || test m) refl
    ]
  where
    all_of : n ≤ m → Shorter test n m → m ≤ scan test m → (n ≤ suc m) × (scan test n ≡ n)
    all_of less rest all =
        elim rest as (λ _. (n ≤ suc m) × (scan test n ≡ n)) [
          | inl same ↦ let low = scan_within test n in (omega (arith, less), omega (arith, same, low, less, all))
          | inr both ↦ (omega (arith, less), both.1)
        ]

    by_last : n ≤ m → Shorter test n m → (b : Bool) → (nat_lt (scan test m) m || test m) ≡ b
        → (cond b (scan test m) (suc m) ≡ scan test n) ⊎ ((n ≤ cond b (scan test m) (suc m)) × (scan test n ≡ n))
    by_last less rest true is = rest
    by_last less rest false is =
        inr (all_of less rest (ltb-false (scan test m) m (neither (nat_lt (scan test m) m) (test m) is)))
      where
        neither : (a b : Bool) → (a || b) ≡ false → a ≡ false
        neither true b e = cc
        neither false b e = refl

-- whether the entry at a position is open
abbrev pub opened : Option Bind → Bool
opened (Some entry) = is_open entry
opened None = false

abbrev pub open_at : Context → ℕ → Bool
open_at g p = opened (lookup g p)

closed_scan : (g : Context) → closed_entries g ≡ scan (open_at g) (length g)
closed_scan [] = refl
closed_scan (b ∷ g) =
    let rest : closed_entries g ≡ scan (open_at (b ∷ g)) (length g) =
    closed_scan g
    ∙ scan_alike (open_at g) (open_at (b ∷ g)) (length g)
    (λ p h. ap opened (sym (lookup-other b g p (λ e. omega (arith, e, h))))) in
    let last : is_open b ≡ open_at (b ∷ g) (length g) = ap opened (sym (lookup-newest b g)) in
    (λ i. cond (nat_lt (rest i) (length g) || last i) (rest i) (suc (length g)))

pub closed_within : (g : Context) → closed_entries g ≤ length g
closed_within g = let all = closed_scan g in let low = scan_within (open_at g) (length g) in omega (arith, all, low)

module _ (g g' : Context) (n : ℕ) (within : n ≤ length g) (within' : n ≤ length g')
    (alike : (p : ℕ) → p < n → open_at g p ≡ open_at g' p) where
  less : (m : ℕ) → ((scan (open_at g) n ≡ m) ⊎ ((n ≤ m) × (scan (open_at g) n ≡ n))) → (q : ℕ) → q < n
      → nat_lt q m ≡ nat_lt q (scan (open_at g) n)
  less m (inl same) q low = ap (nat_lt q) (sym same)
  less m (inr both) q low =
      lt-ltb q m (omega (arith, low, both.0)) ∙ sym (lt-ltb q (scan (open_at g) n) (omega (arith, low, both.1)))

  more : (m : ℕ) → ((scan (open_at g) n ≡ m) ⊎ ((n ≤ m) × (scan (open_at g) n ≡ n)))
      → nat_lt m n ≡ nat_lt (scan (open_at g) n) n
  more m (inl same) = ap (λ k. nat_lt k n) (sym same)
  more m (inr both) = le-ltb m n both.0 ∙ sym (le-ltb (scan (open_at g) n) n (omega (arith, both.1)))

  here : (scan (open_at g) n ≡ closed_entries g) ⊎ ((n ≤ closed_entries g) × (scan (open_at g) n ≡ n))
  here =
      elim (shorter (open_at g) n (length g) within)
      as (λ _. (scan (open_at g) n ≡ closed_entries g) ⊎ ((n ≤ closed_entries g) × (scan (open_at g) n ≡ n))) [
        | inl same ↦ inl (sym same ∙ sym (closed_scan g))
        | inr both ↦ let all = closed_scan g in inr (omega (arith, both.0, all), both.1)
      ]

  there : (scan (open_at g) n ≡ closed_entries g') ⊎ ((n ≤ closed_entries g') × (scan (open_at g) n ≡ n))
  there =
      let same = scan_alike (open_at g) (open_at g') n alike in
      let all = closed_scan g' in
      elim (shorter (open_at g') n (length g') within')
      as (λ _. (scan (open_at g) n ≡ closed_entries g') ⊎ ((n ≤ closed_entries g') × (scan (open_at g) n ≡ n))) [
        | inl e ↦ inl (same ∙ sym e ∙ sym all)
        | inr both ↦ inr (omega (arith, both.0, all), same ∙ both.1)
      ]

  -- a position among the oldest is before all open entries of the one as of the other
  pub older_alike : (q : ℕ) → q < n → nat_lt q (closed_entries g) ≡ nat_lt q (closed_entries g')
  older_alike q low = less (closed_entries g) here q low ∙ sym (less (closed_entries g') there q low)

  -- and one of the oldest entries is open in the one as in the other
  pub open_alike : nat_lt (closed_entries g) n ≡ nat_lt (closed_entries g') n
  open_alike = more (closed_entries g) here ∙ sym (more (closed_entries g') there)
