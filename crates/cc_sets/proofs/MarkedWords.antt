-- Marks in words of 64 bits.
use Rattle.std.proofs.Common.{◌≡◌, ℕ, ◌+◌, ◌-◌, ◌*◌, ◌/◌, ◌%◌, ◌^◌, ◌<◌, ◌≤◌, nat_eq, Bool, true, false, List, length, get_or, set, sym, ap, ◌∙◌, inl, inr, arith, w64}
use Rattle.std.specs.Int.{bit_at, bit_not, trailing_zeros}
use Rattle.std.specs.Prelude.{bit_and, bit_or}
use Rattle.std.proofs.lemmas.Bool.{cases_eq, cases_lt}
use Rattle.std.proofs.lemmas.List.{same_lists, get_or-set_same, get_or-set_other, length-set, get_or_past}
use Rattle.std.proofs.lemmas.List.FromFn.{length-map-range_with_len, get_or-map-range_with_len}
use Rattle.std.proofs.lemmas.Nat.Bits.{bit_at-zero, bit_at-trailing_zeros, bit_at_set_same, bit_at_set_other, bit_at_clear_same, bit_at_clear_other}
use Rattle.cc_sets.specs.Marked.{is_marked, IsClear, IsLastMarked, is_marked_in, marks_of}

pub length-marks_of : (words : List ℕ) → length (marks_of words) ≡ 64 * length words
unfolding marks_of
length-marks_of words = length-map-range_with_len (is_marked_in words) 0 (64 * length words)

marked-marks_of : (words : List ℕ) (p : ℕ) (d : Bool) → p < 64 * length words → get_or (marks_of words) p d ≡ is_marked_in words p
unfolding marks_of
marked-marks_of words p d within = get_or-map-range_with_len (is_marked_in words) 0 (64 * length words) p p d within (omega arith)

unmarked_past : (words : List ℕ) (p : ℕ) → 64 * length words ≤ p → is_marked p (marks_of words) ≡ false
unmarked_past words p past = get_or_past (marks_of words) p false (omega (arith, length-marks_of words))

-- the test of the bit of a position
abbrev tests : ℕ → ℕ → Bool
tests word p = nat_eq (bit_at word (63 - p % 64)) 1

-- a word is replaced by one that differs in the bit of the position alone
marks_of-set : (words : List ℕ) (p word : ℕ) (b : Bool) → p < 64 * length words → tests word p ≡ b
    → ((j : ℕ) → j < 64 → (j ≡ 63 - p % 64 → ⊥) → bit_at word j ≡ bit_at (get_or words (p / 64) 0) j)
    → marks_of (set words (p / 64) word) ≡ set (marks_of words) p b
marks_of-set words p word b within here others =
    let at : p / 64 < length words = omega arith in
    let sized : length (set words (p / 64) word) ≡ length words = length-set words (p / 64) word in
    let same : length (marks_of (set words (p / 64) word)) ≡ length (set (marks_of words) p b) =
    length-marks_of (set words (p / 64) word) ∙ ap (λ n. 64 * n) sized ∙ sym (length-set (marks_of words) p b ∙ length-marks_of words) in
    same_lists _ _ same
    (λ q d below.
    let inside : q < 64 * length words = omega (arith, length-marks_of (set words (p / 64) word)) in
    let inside' : q < 64 * length (set words (p / 64) word) = omega arith in
    marked-marks_of (set words (p / 64) word) q d inside'
    ∙ (elim (cases_eq q p) [
      | inl is ↦
          let place : p < length (marks_of words) = omega (arith, length-marks_of words) in
          ap (is_marked_in (set words (p / 64) word)) is
          ∙ ap (λ w. tests w p) (get_or-set_same words (p / 64) word 0 at)
          ∙ here ∙ sym (ap (λ k. get_or (set (marks_of words) p b) k d) is ∙ get_or-set_same (marks_of words) p b d place)
      | inr apart ↦
          (elim (cases_eq (q / 64) (p / 64)) [
            | inl one ↦
                let low : 63 - q % 64 < 64 = omega arith in
                let bits : 63 - q % 64 ≡ 63 - p % 64 → ⊥ = λ e. apart (omega arith) in
                ap (λ k. tests (get_or (set words (p / 64) word) k 0) q) one
                ∙ ap (λ w. tests w q) (get_or-set_same words (p / 64) word 0 at)
                ∙ ap (λ n. nat_eq n 1) (others (63 - q % 64) low bits)
                ∙ ap (λ k. tests (get_or words k 0) q) (sym one)
            | inr two ↦ ap (λ w. tests w q) (get_or-set_other words (p / 64) (q / 64) word 0 two)
          ])
          ∙ sym (get_or-set_other (marks_of words) p q b d apart ∙ marked-marks_of words q d inside)
    ]))

pub marked_word : (words : List ℕ) (p : ℕ) → p < 64 * length words
    → marks_of (set words (p / 64) (bit_or (get_or words (p / 64) 0) (1 * 2 ^ (63 - p % 64) % 2 ^ 64))) ≡ set (marks_of words) p true
marked_word words p within =
    let low : 63 - p % 64 < 64 = omega arith in
    marks_of-set words p _ true within
    (ap (λ n. nat_eq n 1) (bit_at_set_same w64 (get_or words (p / 64) 0) (63 - p % 64) low))
    (λ j below other. bit_at_set_other w64 (get_or words (p / 64) 0) (63 - p % 64) low j other)

pub unmarked_word : (words : List ℕ) (p : ℕ) → p < 64 * length words
    → marks_of (set words (p / 64) (bit_and (get_or words (p / 64) 0) (bit_not w64 (1 * 2 ^ (63 - p % 64) % 2 ^ 64)))) ≡ set (marks_of words) p false
unmarked_word words p within =
    let low : 63 - p % 64 < 64 = omega arith in
    marks_of-set words p _ false within
    (ap (λ n. nat_eq n 1) (bit_at_clear_same w64 (get_or words (p / 64) 0) (63 - p % 64) low))
    (λ j below other. bit_at_clear_other w64 (get_or words (p / 64) 0) (63 - p % 64) low j below other)

-- the last position that is marked in a word
pub last_bit : (at word r : ℕ) → word < 2 ^ 64 → 0 < word → r ≡ at * 64 + (63 - trailing_zeros w64 word)
    → (r / 64 ≡ at) × (bit_at word (63 - r % 64) ≡ 1) × ((q : ℕ) → r < q → q / 64 ≡ at → bit_at word (63 - q % 64) ≡ 0)
last_bit at word r fits some is =
    let lowest = bit_at-trailing_zeros w64 word some fits in
    let low : trailing_zeros w64 word < 64 = lowest.0 in
    let place : 63 - r % 64 ≡ trailing_zeros w64 word = omega arith in
    (omega arith, ap (bit_at word) place ∙ lowest.1, λ q above same. lowest.2 (63 - q % 64) (omega arith))

-- no position from one on is marked
abbrev pub IsClearFrom : ℕ → List ℕ → Type 0
IsClearFrom n words = (p : ℕ) → n ≤ p → is_marked p (marks_of words) ≡ false

pub word_clear : (words : List ℕ) (at : ℕ) → at < length words → get_or words at 0 ≡ 0 → IsClearFrom (64 * (at + 1)) words → IsClearFrom (64 * at) words
word_clear words at within none above p from =
    elim (cases_lt p (64 * (at + 1))) [
      | inl low ↦
          let k : p / 64 ≡ at = omega arith in
          marked-marks_of words p false (omega arith)
          ∙ ap (λ w. tests w p) (ap (λ k. get_or words k 0) k ∙ none) ∙ ap (λ n. nat_eq n 1) (bit_at-zero (63 - p % 64))
      | inr high ↦ above p high
    ]

pub last_found : (words : List ℕ) (at p : ℕ) → at < length words → p / 64 ≡ at → bit_at (get_or words at 0) (63 - p % 64) ≡ 1
    → ((q : ℕ) → p < q → q / 64 ≡ at → bit_at (get_or words at 0) (63 - q % 64) ≡ 0) → IsClearFrom (64 * (at + 1)) words
    → IsLastMarked p (marks_of words)
last_found words at p within place here last above = (
  marked-marks_of words p false (omega arith) ∙ ap (λ k. tests (get_or words k 0) p) place ∙ ap (λ n. nat_eq n 1) here,
  λ q later.
      elim (cases_lt q (64 * (at + 1))) [
        | inl low ↦
            let k : q / 64 ≡ at = omega arith in
            marked-marks_of words q false (omega arith)
            ∙ ap (λ k. tests (get_or words k 0) q) k ∙ ap (λ n. nat_eq n 1) (last q later k)
        | inr high ↦ above q high
      ],
)

-- words whose first n are zero, where the others are as they were
pub cleared_words : (old new : List ℕ) (n limit : ℕ) → length new ≡ length old → limit ≤ 64 * n → IsClearFrom limit old
    → ((k : ℕ) → k < n → get_or new k 0 ≡ 0) → ((k : ℕ) → n ≤ k → get_or new k 0 ≡ get_or old k 0) → IsClear (marks_of new)
cleared_words old new n limit sized covers above zeros others p =
    elim (cases_lt p (64 * length old)) [
      | inl within ↦
          marked-marks_of new p false (omega arith)
          ∙ (elim (cases_lt (p / 64) n) [
            | inl low ↦ ap (λ w. tests w p) (zeros (p / 64) low) ∙ ap (λ n. nat_eq n 1) (bit_at-zero (63 - p % 64))
            | inr high ↦ ap (λ w. tests w p) (others (p / 64) high) ∙ sym (marked-marks_of old p false within) ∙ above p (omega arith)
          ])
      | inr past ↦ unmarked_past new p (omega arith)
    ]

-- more words, with no marks
pub wider_marks : (old new : List ℕ) → length old ≤ length new → ((k : ℕ) → k < length old → get_or new k 0 ≡ get_or old k 0)
    → ((k : ℕ) → length old ≤ k → k < length new → get_or new k 0 ≡ 0) → (p : ℕ) → is_marked p (marks_of new) ≡ is_marked p (marks_of old)
wider_marks old new wider same zeros p =
    elim (cases_lt p (64 * length old)) [
      | inl within ↦
          marked-marks_of new p false (omega arith) ∙ ap (λ w. tests w p) (same (p / 64) (omega arith))
          ∙ sym (marked-marks_of old p false within)
      | inr past ↦
          (elim (cases_lt p (64 * length new)) [
            | inl within ↦
                marked-marks_of new p false within
                ∙ ap (λ w. tests w p) (zeros (p / 64) (omega arith) (omega arith)) ∙ ap (λ n. nat_eq n 1) (bit_at-zero (63 - p % 64))
            | inr beyond ↦ unmarked_past new p beyond
          ])
          ∙ sym (unmarked_past old p past)
    ]

-- room, seen through the words
pub within_words : (marks : List Bool) (words items : List ℕ) (n : ℕ) → marks ≡ marks_of items → words ≡ items → n < length marks → n < 64 * length words
within_words marks words items n seen same within = omega (arith, ap length seen, length-marks_of items, ap length same)

pub up_to_words : (marks : List Bool) (words items : List ℕ) (n : ℕ) → marks ≡ marks_of items → words ≡ items → n ≤ length marks → n ≤ 64 * length words
up_to_words marks words items n seen same within = omega (arith, ap length seen, length-marks_of items, ap length same)
