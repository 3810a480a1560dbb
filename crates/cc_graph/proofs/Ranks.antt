-- How many places a place leads to, itself counted: fewer from a place that does not lead back.
use Rattle.std.proofs.Common.{◌≡◌, ◌⊎◌, ℕ, ◌+◌, ◌<◌, ◌≤◌, nat_eq, Bool, true, false, ◌||◌, if◌then◌else◌, inl, inr}
use Rattle.std.proofs.Common.{arith, refl, subst, eqb-true, eq-eqb}
use Rattle.std.specs.Prelude.{zero, suc}
use Rattle.std.proofs.lemmas.Bool.{cases_Bool, cases_eq, or_cases, or_left, or_right, ne_eqb}
use Rattle.cc_graph.proofs.Paths.{IsAmong, path_on, path_from_test, test_from_path}
use Rattle.cc_graph.specs.Graph.{one_step, leads_through}
use Rattle.cc_graph.specs.Places.{places_below}

-- how many numbers below n pass
abbrev pub how_many : (ℕ → Bool) → ℕ → ℕ
how_many test zero = 0
how_many test (suc n) = (if test n then 1 else 0) + how_many test n

pub fewer_or_same : (p q : ℕ → Bool) (n : ℕ) → ((k : ℕ) → k < n → p k ≡ true → q k ≡ true) → how_many p n ≤ how_many q n
fewer_or_same p q zero more = omega arith
fewer_or_same p q (suc n) more =
    let rest : how_many p n ≤ how_many q n = fewer_or_same p q n (λ k below. more k (omega arith)) in
    elim (cases_Bool (p n)) [
      | inl passes ↦ rw (passes, more n (omega arith) passes) (omega arith)
      | inr fails ↦ elim (cases_Bool (q n)) [
        | inl other ↦ rw (fails, other) (omega arith)
        | inr neither ↦ rw
            (fails, neither) (omega arith)
      ]
    ]

pub fewer : (p q : ℕ → Bool) (n at : ℕ) → at < n → p at ≡ false → q at ≡ true
    → ((k : ℕ) → k < n → p k ≡ true → q k ≡ true) → how_many p n < how_many q n
fewer p q zero at within lacks has more = absurd (omega arith)
fewer p q (suc n) at within lacks has more =
    elim (cases_eq at n) [
      | inl last ↦
          let P : ℕ → Type 0 = λ k. p k ≡ false in
          let Q : ℕ → Type 0 = λ k. q k ≡ true in
          let rest : how_many p n ≤ how_many q n = fewer_or_same p q n (λ k below. more k (omega arith)) in
          rw (subst P last lacks, subst Q last has) (omega arith)
      | inr earlier ↦
          let rest : how_many p n < how_many q n = fewer p q n at (omega arith) lacks has (λ k below. more k
          (omega arith)) in
          elim (cases_Bool (p n)) [
            | inl passes ↦ rw (passes, more n (omega arith) passes) (omega arith)
            | inr fails ↦ elim (cases_Bool (q n)) [
              | inl other ↦ rw (fails, other) (omega arith)
              | inr neither ↦ rw
                  (fails, neither) (omega arith)
            ]
          ]
    ]

pub among_below : (n k : ℕ) → k < n → IsAmong k (places_below n)
among_below zero k below = absurd (omega arith)
among_below (suc n) k below = elim (cases_eq n k) [
  | inl last ↦ inl last
  | inr earlier ↦ inr (among_below n k
      (omega arith))
]

module _ (step : ℕ → ℕ → Bool) (n : ℕ) (inside : (i j : ℕ) → step i j ≡ true → i < n) where
  -- whether the place leads to the other
  abbrev pub leads : ℕ → ℕ → Bool
  leads = leads_through step (places_below n)

  pub leads_on : (i j k : ℕ) → leads i j ≡ true → leads j k ≡ true → leads i k ≡ true
  leads_on i j k p q =
      test_from_path step (places_below n) (λ c d s. among_below n c (inside c d s)) i k
      (path_on step (path_from_test step (places_below n) i j p) (path_from_test step (places_below n) j k q))

  pub step_leads : (i j : ℕ) → step i j ≡ true → leads i j ≡ true
  step_leads i j s = test_from_path step (places_below n) (λ c d t. among_below n c (inside c d t)) i j (one_step s)

  -- whether the other is the place, or is led to
  abbrev pub is_ahead : ℕ → ℕ → Bool
  is_ahead i k = nat_eq i k || leads i k

  abbrev pub rank : ℕ → ℕ
  rank i = how_many (is_ahead i) n

  -- a place that does not lead back is ahead of fewer
  pub ranks_fall : (i j : ℕ) → step i j ≡ true → leads j i ≡ false → rank j < rank i
  ranks_fall i j s no_way =
      fewer (is_ahead j) (is_ahead i) n i (inside i j s)
      (elim (cases_eq j i) [
        | inl same ↦
            absurd (let P : ℕ → Type 0 = λ k. leads k i ≡ false in
            let Q : ℕ → Type 0 = λ k. step i k ≡ true in
            let back : leads i i ≡ true = step_leads i i (subst Q same s) in
            let none : leads i i ≡ false = subst P same no_way in cc)
        | inr apart ↦ rw (ne_eqb j i apart) no_way
      ])
      (or_left _ _ (eq-eqb i i refl))
      (λ k below ahead.
      elim (or_cases _ _ ahead) [
        | inl same ↦
            let P : ℕ → Type 0 = λ m. leads i m ≡ true in
            or_right _ _ (subst P (eqb-true j k same) (step_leads i j s))
        | inr led ↦ or_right _ _ (leads_on i j k (step_leads i j s) led)
      ])

  -- Where each place that is not listed has a step to one that is not listed and does not lead back, all are listed.
  listed_within : (listed : ℕ → Bool)
      → ((i : ℕ) → i < n → (listed i ≡ true) ⊎ ((j : ℕ) × (step i j ≡ true) × (leads j i ≡ false) ×
      (listed j ≡ false) × (j < n)))
      → (fuel i : ℕ) → rank i < fuel → i < n → listed i ≡ true
  listed_within listed held zero i low within = absurd (omega arith)
  listed_within listed held (suc fuel) i low within =
      elim (held i within) [
        | inl is ↦ is
        | inr waits ↦
            let falls : rank waits.0 < rank i = ranks_fall i waits.0 waits.1 waits.2 in
            let is : listed waits.0 ≡ true = listed_within listed held fuel waits.0 (omega arith) waits.4 in
            absurd (let isnt : listed waits.0 ≡ false = waits.3 in cc)
      ]

  pub all_listed : (listed : ℕ → Bool)
      → ((i : ℕ) → i < n → (listed i ≡ true) ⊎ ((j : ℕ) × (step i j ≡ true) × (leads j i ≡ false) ×
      (listed j ≡ false) × (j < n)))
      → (i : ℕ) → i < n → listed i ≡ true
  all_listed listed held i within = listed_within listed held (rank i + 1) i (omega arith) within
