-- Which bits are set in words that are united, taken apart or made of one bit.
use Rattle.std.proofs.Common.{◌≡◌, ℕ, zero, suc, ◌+◌, ◌*◌, ◌/◌, ◌%◌, ◌^◌, ◌<◌, ◌≤◌, min, max, ◌-◌, Bool, true, false}
use Rattle.std.proofs.Common.{cond, not, ◌&&◌, ◌||◌, eqb, List, [], ◌∷◌, length, inl, inr, refl, sym, ap, ◌∙◌, arith}
use Rattle.std.specs.Int.{w64, bit_at, bit_not, trailing_zeros}
use Rattle.std.specs.Prelude.{bit_and, bit_or, count_ones}
use Rattle.std.specs.Int.Bits.{or_zero_l}
use Rattle.std.specs.Int.Count.{ones_step}
use Rattle.std.proofs.Math.Nat.{pow-suc, add-zero}
use Rattle.std.specs.List.{filter, range_with_len}
use Rattle.std.proofs.lemmas.Bool.{both_ways, eq-eqb, ne_eqb, cases_eq, cases_lt}
use Rattle.std.proofs.lemmas.Nat.{and_le_l, pow_pos}
use Rattle.std.proofs.lemmas.Nat.Bits.{bit_at_and, bit_at_or, bit_at_not, bit_at-lt, bit_at-zero, bit_at-suc}
use Rattle.std.proofs.lemmas.Nat.Bits.{bit_at_lowest, bit_at-trailing_zeros, bit_at_set_same, bit_at_set_other}
use Rattle.std.proofs.lemmas.Nat.Bits.{bit_at_clear_same, bit_at_clear_other, same_from_bits_below}
use Rattle.cc_capture.specs.Words.{has_bit, bit_places}

-- the word with one bit
abbrev pub one_bit : ℕ → ℕ
one_bit k = 1 * 2 ^ k % 2 ^ 64

or_bits : (x y : ℕ) → x < 2 → y < 2 → eqb (max x y) 1 ≡ (eqb x 1 || eqb y 1)
or_bits zero zero h k = refl
or_bits zero (suc zero) h k = refl
or_bits (suc zero) zero h k = refl
or_bits (suc zero) (suc zero) h k = refl
or_bits (suc (suc x)) y h k = absurd (omega arith)
or_bits zero (suc (suc y)) h k = absurd (omega arith)
or_bits (suc zero) (suc (suc y)) h k = absurd (omega arith)

not_bits : (x y : ℕ) → x < 2 → y < 2 → eqb (min x (1 - y)) 1 ≡ (eqb x 1 && not (eqb y 1))
not_bits zero zero h k = refl
not_bits zero (suc zero) h k = refl
not_bits (suc zero) zero h k = refl
not_bits (suc zero) (suc zero) h k = refl
not_bits (suc (suc x)) y h k = absurd (omega arith)
not_bits zero (suc (suc y)) h k = absurd (omega arith)
not_bits (suc zero) (suc (suc y)) h k = absurd (omega arith)

pub has_bit-or : (a b k : ℕ) → has_bit (bit_or a b) k ≡ (has_bit a k || has_bit b k)
has_bit-or a b k = ap (λ x. eqb x 1) (bit_at_or a b k) ∙ or_bits _ _ (bit_at-lt a k) (bit_at-lt b k)

pub has_bit-and_not : (a b k : ℕ) → b < 2 ^ 64 → k < 64
    → has_bit (bit_and a (bit_not w64 b)) k ≡ (has_bit a k && not (has_bit b k))
has_bit-and_not a b k within place =
    ap (λ x. eqb x 1) (bit_at_and a (bit_not w64 b) k ∙ ap (min (bit_at a k)) (bit_at_not w64 b k within place))
    ∙ not_bits _ _ (bit_at-lt a k) (bit_at-lt b k)

pub has_bit-zero : (k : ℕ) → has_bit 0 k ≡ false
has_bit-zero k = ap (λ x. eqb x 1) (bit_at-zero k)

pub has_bit-one_bit : (k i : ℕ) → k < 64 → has_bit (one_bit k) i ≡ eqb i k
has_bit-one_bit k i within =
    elim (cases_eq i k) [
      | inl same ↦
          rw (same, eq-eqb k k refl) (eq-eqb _ 1 (rw (or_zero_l (one_bit k)) at (bit_at_set_same w64 0 k within)))
      | inr other ↦ rw (ne_eqb i k other)
          (ap (λ x. eqb x 1) ((rw (or_zero_l (one_bit k)) at (bit_at_set_other w64 0 k within i other))
          ∙ bit_at-zero i))
    ]

pub has_bit-cleared : (b k i : ℕ) → k < 64 → i < 64
    → has_bit (bit_and b (bit_not w64 (one_bit k))) i ≡ (has_bit b i && not (eqb i k))
has_bit-cleared b k i within place =
    elim (cases_eq i k) [
      | inl same ↦
          rw (same, eq-eqb k k refl) (ap (λ x. eqb x 1) (bit_at_clear_same w64 b k within) ∙ gone (has_bit b k))
      | inr other ↦
          rw (ne_eqb i k other) (ap (λ x. eqb x 1) (bit_at_clear_other w64 b k within i place other)
          ∙ kept (has_bit b i))
    ]
  where
    gone : (x : Bool) → false ≡ (x && not true)
    gone true = refl
    gone false = refl

    kept : (x : Bool) → x ≡ (x && not false)
    kept true = refl
    kept false = refl

-- words with the same bits are one
pub same_bits : (a b : ℕ) → a < 2 ^ 64 → b < 2 ^ 64 → ((i : ℕ) → i < 64 → has_bit a i ≡ has_bit b i) → a ≡ b
same_bits a b p q same =
    same_from_bits_below 64 a b p q (λ i h. decided (bit_at a i) (bit_at b i) (bit_at-lt a i) (bit_at-lt b i)
    (same i h))
  where
    decided : (x y : ℕ) → x < 2 → y < 2 → eqb x 1 ≡ eqb y 1 → x ≡ y
    decided zero zero h k e = refl
    decided zero (suc zero) h k e = absurd (both_ways false refl e)
    decided (suc zero) zero h k e = absurd (both_ways false refl (sym e))
    decided (suc zero) (suc zero) h k e = refl
    decided (suc (suc x)) y h k e = absurd (omega arith)
    decided zero (suc (suc y)) h k e = absurd (omega arith)
    decided (suc zero) (suc (suc y)) h k e = absurd (omega arith)

-- a word with no bit is 0
pub no_bits : (a : ℕ) → a < 2 ^ 64 → ((i : ℕ) → i < 64 → has_bit a i ≡ false) → a ≡ 0
no_bits a p none = same_bits a 0 p (pow_pos 64) (λ i h. none i h ∙ sym (has_bit-zero i))

pub and_not-lt : (a b : ℕ) → a < 2 ^ 64 → bit_and a b < 2 ^ 64
and_not-lt a b p = let below = and_le_l a b in omega (arith, p, below)

pub one_bit-lt : (k : ℕ) → k < 64 → one_bit k < 2 ^ 64
one_bit-lt k within = omega arith

pub one_bit-positive : (k : ℕ) → k < 64 → 0 < one_bit k
one_bit-positive k within =
    elim (cases_lt 0 (one_bit k)) [
      | inl more ↦ more
      | inr none ↦ let is : one_bit k ≡ 0 = omega arith in
          absurd (both_ways _ (has_bit-zero k)
          (sym (ap (λ x. has_bit x k) is) ∙ has_bit-one_bit k k within ∙ eq-eqb k k refl))
    ]

-- a word that is not 0 has a bit
pub some_bit : (a : ℕ) → 0 < a → a < 2 ^ 64 → (trailing_zeros w64 a < 64) × (has_bit a (trailing_zeros w64 a) ≡ true)
some_bit a more within = let lowest = bit_at-trailing_zeros w64 a more within in (lowest.0, eq-eqb _ 1 lowest.1)

-- the first place that passes, where the other test passes at all others and not at that one
filter_first : (p q : ℕ → Bool) (a n t : ℕ) → a ≤ t → t < a + n → p t ≡ true → q t ≡ false
    → ((i : ℕ) → i < t → p i ≡ false) → ((i : ℕ) → i < a + n → (i ≡ t → ⊥) → q i ≡ p i)
    → filter p (range_with_len a n) ≡ t ∷ filter q (range_with_len a n)
filter_first p q a zero t low high here gone before other = absurd (omega arith)
filter_first p q a (suc n) t low high here gone before other =
    elim (cases_eq a t) [
      | inl same ↦
          rw (ap p same ∙ here, ap q same ∙ gone, same)
          (ap (λ ns. t ∷ ns) (filter_after p q (t + 1) n t (omega arith) (λ i h. other i (omega (arith, same, h)))))
      | inr differs ↦
          rw (other a (omega arith) differs, before a (omega (arith, differs, low)))
          (filter_first p q (a + 1) n t (omega (arith, differs, low)) (omega arith) here gone before
          (λ i h. other i (omega (arith, h))))
    ]
  where
    filter_after : (p q : ℕ → Bool) (a n t : ℕ) → t < a → ((i : ℕ) → i < a + n → (i ≡ t → ⊥) → q i ≡ p i)
        → filter p (range_with_len a n) ≡ filter q (range_with_len a n)
    filter_after p q a zero t past other = refl
    filter_after p q a (suc n) t past other =
        rw (
          other a (omega arith) (λ e. omega (arith, e, past)),
          filter_after p q (a + 1) n t (omega arith)
              (λ i h. other i (omega (arith, h))),
        ) refl

-- the places of a word are its lowest place, and those of what is left when that bit is cleared
pub bit_places-lowest : (b : ℕ) → 0 < b → b < 2 ^ 64
    → bit_places b ≡ trailing_zeros w64 b ∷ bit_places (bit_and b (bit_not w64 (one_bit (trailing_zeros w64 b))))
bit_places-lowest b more within =
    let lowest = bit_at-trailing_zeros w64 b more within in
    let t = trailing_zeros w64 b in
    filter_first (has_bit b) (has_bit (bit_and b (bit_not w64 (one_bit t)))) 0 64 t (omega arith) lowest.0
    (eq-eqb _ 1 lowest.1)
    (ap (λ x. eqb x 1) (bit_at_clear_same w64 b t lowest.0))
    (λ i h. ap (λ x. eqb x 1) (lowest.2 i h))
    (λ i h differs. ap (λ x. eqb x 1) (bit_at_clear_other w64 b t lowest.0 i h differs))

pub bit_places-zero : bit_places 0 ≡ []
bit_places-zero = none 0 64
  where
    none : (a n : ℕ) → filter (has_bit 0) (range_with_len a n) ≡ []
    none a zero = refl
    none a (suc n) = rw (has_bit-zero a) (none (a + 1) n)

-- a word has as many places as bits that are set
length-first : (x a : ℕ) (ns : List ℕ) → x < 2 → length (cond (eqb x 1) (a ∷ ns) ns) ≡ x + length ns
length-first zero a ns h = omega arith
length-first (suc zero) a ns h = omega arith
length-first (suc (suc x)) a ns h = absurd (omega arith)

has_bit-lowest : (c : ℕ) → has_bit c 0 ≡ eqb (c % 2) 1
has_bit-lowest c = ap (λ x. eqb x 1) (bit_at_lowest c)

has_bit-next : (c i : ℕ) → has_bit c (suc i) ≡ has_bit (c / 2) i
has_bit-next c i = ap (λ x. eqb x 1) (bit_at-suc c i)

count_ones-zero : count_ones 0 ≡ 0
unfolding lib.Count.ones lib.Count.ones_in
count_ones-zero = refl

count-places : (n a b c : ℕ) → ((i : ℕ) → has_bit b (a + i) ≡ has_bit c i) → c < 2 ^ n
    → length (filter (has_bit b) (range_with_len a n)) ≡ count_ones c
count-places zero a b c same h =
    let none : c ≡ 0 = omega (arith, h) in sym (ap count_ones none ∙ count_ones-zero)
count-places (suc n) a b c same h =
    let twice : 2 ^ suc n ≡ 2 ^ n * 2 = pow-suc 2 n in
    let low : has_bit b a ≡ eqb (c % 2) 1 =
    sym (ap (has_bit b) (add-zero a)) ∙ same 0 ∙ has_bit-lowest c in
    let rest =
    count-places n (a + 1) b (c / 2) (λ i. ap (has_bit b) (omega arith) ∙ same (suc i) ∙ has_bit-next c i)
    (omega (arith, twice, h)) in
    ap (λ t. length (cond t (a ∷ filter (has_bit b) (range_with_len (a + 1) n))
    (filter (has_bit b) (range_with_len (a + 1) n)))) low
    ∙ length-first (c % 2) a (filter (has_bit b) (range_with_len (a + 1) n)) (omega arith)
    ∙ ap (λ x. c % 2 + x) rest
    ∙ sym (ones_step c)

pub length-bit_places : (b : ℕ) → b < 2 ^ 64 → length (bit_places b) ≡ count_ones b
length-bit_places b within = count-places 64 0 b b (λ i. ap (has_bit b) (omega arith)) within
