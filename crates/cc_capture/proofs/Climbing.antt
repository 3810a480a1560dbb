-- Lists of numbers that rise, from one bound to another.
use Rattle.std.proofs.Common.{◌≡◌, ℕ, zero, suc, ◌+◌, ◌<◌, ◌≤◌, Bool, true, false, cond, List, [], ◌∷◌, ◌++◌, map}
use Rattle.std.proofs.Common.{length, inl, inr, ◌⊎◌, refl, sym, ap, ◌∙◌, subst, arith}
use Rattle.std.specs.List.{filter, range_with_len}
use Rattle.std.proofs.lemmas.Bool.{both_ways}
use Rattle.cc_capture.specs.Rising.{IsBelowAll, IsRising}
use Rattle.cc_capture.specs.Numbers.{element_at}
use Rattle.cc_capture.proofs.ElementNumbers.{element_at-rises}

-- the numbers rise, from low on and below high
abbrev pub Climbs : ℕ → ℕ → List ℕ → Type 0
Climbs low high [] = low ≤ high
Climbs low high (n ∷ ns) = (low ≤ n) × Climbs (suc n) high ns

pub Climbs-low : (i low high : ℕ) (ns : List ℕ) → i ≤ low → Climbs low high ns → Climbs i high ns
Climbs-low i low high [] l c = omega (arith, l, c)
Climbs-low i low high (n ∷ ns) l c = (omega (arith, l, c.0), c.1)

pub Climbs-append : (low middle high : ℕ) (ms ns : List ℕ) → Climbs low middle ms → Climbs middle high ns
    → Climbs low high (ms ++ ns)
Climbs-append low middle high [] ns b c = Climbs-low low middle high ns b c
Climbs-append low middle high (m ∷ ms) ns b c = (b.0, Climbs-append (suc m) middle high ms ns b.1 c)

pub Climbs-length : (low high : ℕ) (ns : List ℕ) → Climbs low high ns → low + length ns ≤ high
Climbs-length low high [] c = omega (arith, c)
Climbs-length low high (n ∷ ns) c = let rest = Climbs-length (suc n) high ns c.1 in omega (arith, c.0, rest)

-- the numbers of a range that pass a test, moved up
pub Climbs-places : (base a n : ℕ) (test : ℕ → Bool)
    → Climbs (base + a) (base + (a + n)) (map (λ k. base + k) (filter test (range_with_len a n)))
Climbs-places base a zero test = omega arith
Climbs-places base a (suc n) test =
    let rest = Climbs-places base (a + 1) n test in
    let high : base + (a + 1 + n) ≡ base + (a + suc n) = omega arith in
    let rest' : Climbs (base + (a + 1)) (base + (a + suc n))
    (map (λ k. base + k) (filter test (range_with_len (a + 1) n))) =
    subst (λ h. Climbs (base + (a + 1)) h (map (λ k. base + k) (filter test (range_with_len (a + 1) n)))) high rest in
    elim (test a) as (λ b. Climbs (base + a) (base + (a + suc n))
    (map (λ k. base + k) (cond b (a ∷ filter test (range_with_len (a + 1) n))
    (filter test (range_with_len (a + 1) n))))) [
      | true ↦ (omega arith, Climbs-low (suc (base + a)) (base + (a + 1)) _ _ (omega arith) rest')
      | false ↦ Climbs-low (base + a) (base + (a + 1)) _ _ (omega arith) rest'
    ]

IsBelowAll-elements : (m low high : ℕ) (ns : List ℕ) → m < low → Climbs low high ns
    → IsBelowAll (element_at m) (map element_at ns)
IsBelowAll-elements m low high [] l c = tt
IsBelowAll-elements m low high (n ∷ ns) l c =
    (element_at-rises m n (omega (arith, l, c.0)), IsBelowAll-elements m (suc n) high ns (omega (arith, l, c.0)) c.1)

pub IsRising-elements : (low high : ℕ) (ns : List ℕ) → Climbs low high ns → IsRising (map element_at ns)
IsRising-elements low high [] c = tt
IsRising-elements low high (n ∷ ns) c =
    (IsBelowAll-elements n (suc n) high ns (omega arith) c.1, IsRising-elements (suc n) high ns c.1)

-- the number is one of the list
abbrev pub In : ℕ → List ℕ → Type 0
In n [] = ⊥
In n (m ∷ ms) = (n ≡ m) ⊎ In n ms

pub In-append_left : (n : ℕ) (ms ns : List ℕ) → In n ms → In n (ms ++ ns)
In-append_left n [] ns h = absurd h
In-append_left n (m ∷ ms) ns h = elim h [ inl same ↦ inl same | inr there ↦ inr (In-append_left n ms ns there) ]

pub In-append_right : (n : ℕ) (ms ns : List ℕ) → In n ns → In n (ms ++ ns)
In-append_right n [] ns h = h
In-append_right n (m ∷ ms) ns h = inr (In-append_right n ms ns h)

pub In-append_cases : (n : ℕ) (ms ns : List ℕ) → In n (ms ++ ns) → In n ms ⊎ In n ns
In-append_cases n [] ns h = inr h
In-append_cases n (m ∷ ms) ns h =
    elim h [
      | inl same ↦ inl (inl same)
      | inr there ↦ elim (In-append_cases n ms ns there) [ inl left ↦ inl (inr left) | inr right ↦ inr right ]
    ]

pub In-places : (base a n k : ℕ) (test : ℕ → Bool) → a ≤ k → k < a + n → test k ≡ true
    → In (base + k) (map (λ i. base + i) (filter test (range_with_len a n)))
In-places base a zero k test l h e = absurd (omega arith)
In-places base a (suc n) k test l h e =
    elim (test a) as (λ b. test a ≡ b → In (base + k)
    (map (λ i. base + i) (cond b (a ∷ filter test (range_with_len (a + 1) n))
    (filter test (range_with_len (a + 1) n))))) [
      | true ↦ λ here. elim (Rattle.std.proofs.lemmas.Bool.cases_eq k a) [
        | inl same ↦ inl (ap (λ i. base + i) same)
        | inr other ↦ inr (In-places base (a + 1) n k test (omega (arith, l, other)) (omega arith) e)
      ]
      | false ↦ λ none.
          let other : k ≡ a → ⊥ = λ same. both_ways _ none (sym (ap test same) ∙ e) in
          In-places base (a + 1) n k test (omega (arith, l, other)) (omega arith) e
    ] refl

pub In-from_places : (base a n m : ℕ) (test : ℕ → Bool)
    → In m (map (λ i. base + i) (filter test (range_with_len a n)))
    → (k : ℕ) × (k < a + n) × (test k ≡ true) × (m ≡ base + k)
In-from_places base a zero m test h = absurd h
In-from_places base a (suc n) m test h =
    elim (test a) as (λ b. test a ≡ b → In m
    (map (λ i. base + i) (cond b (a ∷ filter test (range_with_len (a + 1) n))
    (filter test (range_with_len (a + 1) n)))) → (k : ℕ) × (k < a + suc n) × (test k ≡ true) × (m ≡ base + k)) [
      | true ↦ λ here h'. elim h' [
        | inl same ↦ (a, omega arith, here, same)
        | inr there ↦
            let rest = In-from_places base (a + 1) n m test there in (rest.0, omega (arith, rest.1), rest.2, rest.3)
      ]
      | false ↦
          λ none there. let rest = In-from_places base (a + 1) n m test there in
          (rest.0, omega (arith, rest.1), rest.2, rest.3)
    ] refl h

-- numbers that rise below some bound, and are each below another, rise below that
pub Climbs-below : (low high bound : ℕ) (ns : List ℕ) → low ≤ bound → ((n : ℕ) → In n ns → n < bound)
    → Climbs low high ns → Climbs low bound ns
Climbs-below low high bound [] l all c = l
Climbs-below low high bound (n ∷ ns) l all c = (
  c.0,
  Climbs-below (suc n) high bound ns (let first = all n (inl refl) in omega (arith, first))
      (λ m h. all m (inr h)) c.1,
)
