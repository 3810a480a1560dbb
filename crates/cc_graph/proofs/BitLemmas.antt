-- Bits of sets of places.
use Rattle.std.proofs.Common.{◌≡◌, ◌⊎◌, ℕ, ◌+◌, ◌*◌, ◌/◌, ◌%◌, ◌^◌, ◌<◌, ◌≤◌, nat_eq, true, false, ◌||◌, List, []}
use Rattle.std.proofs.Common.{length, get_or, set, sym, ap, refl, ◌∙◌, inl, inr, arith, w64, replicate, eq-eqb}
use Rattle.std.proofs.Common.{eqb-true}
use Rattle.std.specs.Int.{bit_at, bit_not, trailing_zeros}
use Rattle.std.specs.Prelude.{bit_and, bit_or, max}
use Rattle.std.proofs.lemmas.Bool.{cases_eq, cases_lt, ne_eqb}
use Rattle.std.proofs.lemmas.List.{get_or-set_same, get_or-set_other, get_or_past, get_or-replicate, length-replicate}
use Rattle.std.proofs.lemmas.Nat.{and_le_l}
use Rattle.std.proofs.lemmas.Nat.Bits.{bit_at-zero, bit_at-lt, bit_at_or, bit_at_and, bit_at_not, bit_at-trailing_zeros}
use Rattle.std.proofs.lemmas.Nat.Bits.{bit_at_set_same, bit_at_set_other}
use Rattle.cc_graph.specs.Places.{has_bit}

bit_cases : (n : ℕ) → n < 2 → (n ≡ 0) ⊎ (n ≡ 1)
bit_cases n low = elim (cases_eq n 0) [ inl none ↦ inl none | inr some ↦ inr (omega arith) ]

or_tests : (a b : ℕ) → a < 2 → b < 2 → nat_eq (max a b) 1 ≡ (nat_eq a 1 || nat_eq b 1)
or_tests a b low small =
    elim (bit_cases a low) [
      | inl none ↦ elim (bit_cases b small) [
        | inl no_other ↦ rw (none, no_other) refl
        | inr other ↦ rw
            (none, other) refl
      ]
      | inr one ↦ elim (bit_cases b small) [ inl no_other ↦ rw (one, no_other) refl | inr other ↦ rw (one, other) refl ]
    ]

tests-bit_or : (x y i : ℕ) → nat_eq (bit_at (bit_or x y) i) 1 ≡ (nat_eq (bit_at x i) 1 || nat_eq (bit_at y i) 1)
tests-bit_or x y i = rw (bit_at_or x y i) (or_tests (bit_at x i) (bit_at y i) (bit_at-lt x i) (bit_at-lt y i))

zero_words : (n k : ℕ) → get_or {A = ℕ} (replicate n 0) k 0 ≡ 0
zero_words n k =
    elim (cases_lt k n) [
      | inl within ↦ get_or-replicate n k 0 0 within
      | inr past ↦ get_or_past (replicate {A = ℕ} n 0) k 0 (omega (arith, length-replicate {A = ℕ} n 0))
    ]

pub empty_words : (n place : ℕ) → has_bit (replicate {A = ℕ} n 0) place ≡ false
unfolding has_bit
empty_words n place = rw (zero_words n (place / 64), bit_at-zero (place % 64)) refl

pub past_words : (place : ℕ) → has_bit [] place ≡ false
unfolding has_bit
past_words place = rw (bit_at-zero (place % 64)) refl

pub put_word : (words : List ℕ) (p other : ℕ) → p < 64 * length words
    → has_bit (set words (p / 64) (bit_or (get_or words (p / 64) 0) (1 * 2 ^ (p % 64) % 2 ^ 64))) other ≡
    (nat_eq other p || has_bit words other)
unfolding has_bit
put_word words p other within =
    let at : p / 64 < length words = omega arith in
    let low : p % 64 < 64 = omega arith in
    let word : ℕ = bit_or (get_or words (p / 64) 0) (1 * 2 ^ (p % 64) % 2 ^ 64) in
    elim (cases_eq other p) [
      | inl is ↦
          rw (eq-eqb other p is)
          (ap (λ k. nat_eq (bit_at (get_or (set words (p / 64) word) (k / 64) 0) (k % 64)) 1) is
          ∙ ap (λ w. nat_eq (bit_at w (p % 64)) 1) (get_or-set_same words (p / 64) word 0 at)
          ∙ ap (λ n. nat_eq n 1) (bit_at_set_same w64 (get_or words (p / 64) 0) (p % 64) low))
      | inr apart ↦
          rw (ne_eqb other p apart)
          (elim (cases_eq (other / 64) (p / 64)) [
            | inl one ↦
                let bits : other % 64 ≡ p % 64 → ⊥ = λ e. apart (omega arith) in
                ap (λ k. nat_eq (bit_at (get_or (set words (p / 64) word) k 0) (other % 64)) 1) one
                ∙ ap (λ w. nat_eq (bit_at w (other % 64)) 1) (get_or-set_same words (p / 64) word 0 at)
                ∙ ap (λ n. nat_eq n 1) (bit_at_set_other w64 (get_or words (p / 64) 0) (p % 64) low (other % 64) bits)
                ∙ ap (λ k. nat_eq (bit_at (get_or words k 0) (other % 64)) 1) (sym one)
            | inr two ↦ ap (λ w. nat_eq (bit_at w (other % 64)) 1) (get_or-set_other words (p / 64)
                (other / 64) word 0 two)
          ])
    ]

pub joined_words : (old new others : List ℕ) → length new ≡ length old → length others ≡ length old
    → ((j : ℕ) → j < length old → get_or new j 0 ≡ bit_or (get_or old j 0) (get_or others j 0))
    → (place : ℕ) → has_bit new place ≡ (has_bit old place || has_bit others place)
unfolding has_bit
joined_words old new others sized same each place =
    elim (cases_lt (place / 64) (length old)) [
      | inl within ↦
          ap (λ w. nat_eq (bit_at w (place % 64)) 1) (each (place / 64) within)
          ∙ tests-bit_or (get_or old (place / 64) 0) (get_or others (place / 64) 0) (place % 64)
      | inr past ↦
          rw (
            get_or_past new (place / 64) 0 (omega arith),
            get_or_past old (place / 64) 0 past,
            get_or_past others
                (place / 64) 0 (omega arith),
            bit_at-zero (place % 64),
          ) refl
    ]

-- a bit of a word is missing in another
pub missing_bit : (words others : List ℕ) (at : ℕ) → get_or words at 0 < 2 ^ 64 → get_or others at 0 < 2 ^ 64
    → (bit_and (get_or words at 0) (bit_not w64 (get_or others at 0)) ≡ 0 → ⊥)
    → (place : ℕ) × (has_bit words place ≡ true) × (has_bit others place ≡ false)
unfolding has_bit
missing_bit words others at fits small some =
    let w : ℕ = get_or words at 0 in
    let o : ℕ = get_or others at 0 in
    let x : ℕ = bit_and w (bit_not w64 o) in
    let low : x ≤ w = and_le_l w (bit_not w64 o) in
    let lowest = bit_at-trailing_zeros w64 x (omega arith) (omega arith) in
    let i : ℕ = trailing_zeros w64 x in
    let inside : i < 64 = lowest.0 in
    let both = bit_at_and w (bit_not w64 o) i in
    let negated = bit_at_not w64 o i small inside in
    let one : bit_at w i ≡ 1 = omega (arith, lowest.1, both, negated, bit_at-lt w i, bit_at-lt o i) in
    let zeroed : bit_at o i ≡ 0 = omega (arith, lowest.1, both, negated, bit_at-lt w i, bit_at-lt o i) in
    let row : (at * 64 + i) / 64 ≡ at = omega arith in
    let column : (at * 64 + i) % 64 ≡ i = omega arith in
    (at * 64 + i, rw (row, column, one) refl, rw (row, column, zeroed) refl)

pub bits_within : (words others : List ℕ) → ((at : ℕ) → at < length words → get_or others at 0 < 2 ^ 64)
    → ((at : ℕ) → at < length words → bit_and (get_or words at 0) (bit_not w64 (get_or others at 0)) ≡ 0)
    → (place : ℕ) → has_bit words place ≡ true → has_bit others place ≡ true
unfolding has_bit
bits_within words others fits none place has =
    elim (cases_lt (place / 64) (length words)) [
      | inl within ↦
          let w : ℕ = get_or words (place / 64) 0 in
          let o : ℕ = get_or others (place / 64) 0 in
          let i : ℕ = place % 64 in
          let inside : i < 64 = omega arith in
          let one : bit_at w i ≡ 1 = eqb-true _ 1 has in
          let both = bit_at_and w (bit_not w64 o) i in
          let negated = bit_at_not w64 o i (fits (place / 64) within) inside in
          let gone : bit_at (bit_and w (bit_not w64 o)) i ≡ 0 = ap (λ x. bit_at x i) (none (place / 64) within)
          ∙ bit_at-zero i in
          eq-eqb _ 1 (omega (arith, one, both, negated, gone, bit_at-lt o i))
      | inr past ↦
          absurd (let one : bit_at (get_or words (place / 64) 0) (place % 64) ≡ 1 = eqb-true _ 1 has in
          let gone : bit_at (get_or words (place / 64) 0) (place % 64) ≡ 0 = rw (get_or_past words
          (place / 64) 0 past) (bit_at-zero (place % 64)) in
          omega arith)
    ]
