-- The numbers and the elements in words: they rise, and are those that the words hold.
use Rattle.std.proofs.Common.{◌≡◌, ℕ, zero, suc, ◌+◌, ◌*◌, ◌/◌, ◌%◌, ◌^◌, ◌<◌, ◌≤◌, Bool, true, false, not, ◌&&◌}
use Rattle.std.proofs.Common.{◌||◌, eqb, List, [], ◌∷◌, ◌++◌, map, length, inl, inr, refl, sym, ap, ◌∙◌, subst, arith}
use Rattle.std.specs.Int.{w64, bit_not, trailing_zeros}
use Rattle.std.specs.Prelude.{◌-◌, bit_and, bit_or, slice_get, Option, Some, None, option_map}
use Rattle.std.specs.Int.Bits.{and_zero_l}
use Rattle.std.specs.List.{filter, range_with_len}
use Rattle.std.proofs.lemmas.Bool.{eq-eqb, ne_eqb, eqb-true, both_ways, cases_lt, cases_eq, cases_order, and_from}
use Rattle.std.proofs.lemmas.Bool.{and_parts, or_cases, or_left, or_right}
use Rattle.std.proofs.lemmas.List.{length-append, length-map}
use Rattle.cc_capture.specs.declared.var.Elem.{Elem}
use Rattle.cc_capture.specs.declared.words.Word.{Word}
use Rattle.cc_capture.specs.Rising.{IsRising, is_listed}
use Rattle.cc_capture.specs.ElementOrder.{same_element-true, same_element-itself}
use Rattle.cc_capture.specs.Numbers.{element_at}
use Rattle.cc_capture.specs.Words.{has_bit, bit_places, word_numbers, numbers, elements, word_bits, holds, IsBefore}
use Rattle.cc_capture.specs.Words.{IsBounded, IsWord, IsSparse, single, joined, without, is_within, same_words}
use Rattle.cc_capture.proofs.Bits.{one_bit, has_bit-or, has_bit-zero, has_bit-one_bit, has_bit-cleared}
use Rattle.cc_capture.proofs.Bits.{has_bit-and_not, same_bits, no_bits, and_not-lt, some_bit, bit_places-lowest}
use Rattle.cc_capture.proofs.Bits.{bit_places-zero, length-bit_places, one_bit-lt, one_bit-positive}
use Rattle.cc_capture.proofs.Climbing.{Climbs, Climbs-low, Climbs-append, Climbs-places, Climbs-length, Climbs-below}
use Rattle.cc_capture.proofs.Climbing.{IsRising-elements, In, In-append_left, In-append_right, In-append_cases}
use Rattle.cc_capture.proofs.Climbing.{In-places, In-from_places}
use Rattle.cc_capture.proofs.SparseWords.{word_bits-before, word_bits-first, word_bits-other, word_bits-lt}
use Rattle.cc_capture.proofs.SparseWords.{word_bits-joined, word_bits-without, IsBefore-trans}

-- the numbers rise
Climbs-word : (w : Word) → Climbs (w.at * 64) (w.at * 64 + 64) (word_numbers w)
Climbs-word w =
    Climbs-low (w.at * 64) (w.at * 64 + 0) (w.at * 64 + 64) (word_numbers w) (omega arith)
    (Climbs-places (w.at * 64) 0 64 (has_bit w.bits))

Climbs-numbers_after : (at : ℕ) (ws : List Word) → IsBefore at ws → IsSparse ws
    → (high : ℕ) × Climbs (at * 64 + 64) high (numbers ws)
Climbs-numbers_after at [] b s = (at * 64 + 64, omega arith)
Climbs-numbers_after at (w ∷ ws) b s =
    let rest = Climbs-numbers_after w.at ws s.1 s.2 in (
      rest.0,
      Climbs-low (at * 64 + 64) (w.at * 64) rest.0 (numbers (w ∷ ws)) (omega (arith, b.0))
          (Climbs-append (w.at * 64) (w.at * 64 + 64) rest.0 (word_numbers w) (numbers ws) (Climbs-word w) rest.1),
    )

pub Climbs-numbers : (ws : List Word) → IsSparse ws → (high : ℕ) × Climbs 0 high (numbers ws)
Climbs-numbers [] s = (0, omega arith)
Climbs-numbers (w ∷ ws) s =
    let rest = Climbs-numbers_after w.at ws s.1 s.2 in (
      rest.0,
      Climbs-low 0 (w.at * 64) rest.0 (numbers (w ∷ ws)) (omega arith)
          (Climbs-append (w.at * 64) (w.at * 64 + 64) rest.0 (word_numbers w) (numbers ws) (Climbs-word w) rest.1),
    )

pub IsRising-words : (ws : List Word) → IsSparse ws → IsRising (elements ws)
IsRising-words ws s = let c = Climbs-numbers ws s in IsRising-elements 0 c.0 (numbers ws) c.1

-- the numbers are those that are held
quotient : (at k : ℕ) → k < 64 → (at * 64 + k) / 64 ≡ at
quotient at k h = omega (arith, h)

remainder : (at k : ℕ) → k < 64 → (at * 64 + k) % 64 ≡ k
remainder at k h = omega (arith, h)

parts : (n : ℕ) → n / 64 * 64 + n % 64 ≡ n
parts n = omega arith

place-lt : (n : ℕ) → n % 64 < 64
place-lt n = omega arith

pub In-numbers : (n : ℕ) (ws : List Word) → holds n ws ≡ true → In n (numbers ws)
In-numbers n [] h = both_ways _ (has_bit-zero (n % 64)) h
In-numbers n (w ∷ ws) h =
    elim (cases_eq w.at (n / 64)) [
      | inl here ↦
          let set : has_bit w.bits (n % 64) ≡ true = (rw (eq-eqb w.at (n / 64) here) at h) in
          let is : w.at * 64 + n % 64 ≡ n = ap (λ a. a * 64 + n % 64) here ∙ parts n in
          In-append_left n (word_numbers w) (numbers ws)
          (subst (λ m. In m (word_numbers w)) is
          (In-places (w.at * 64) 0 64 (n % 64) (has_bit w.bits) (omega arith) (place-lt n) set))
      | inr other ↦
          let set : holds n ws ≡ true = (rw (ne_eqb w.at (n / 64) other) at h) in
          In-append_right n (word_numbers w) (numbers ws) (In-numbers n ws set)
    ]

in_word : (n : ℕ) (w : Word) → In n (word_numbers w) → (w.at ≡ n / 64) × (has_bit w.bits (n % 64) ≡ true)
in_word n w h =
    let found = In-from_places (w.at * 64) 0 64 n (has_bit w.bits) h in
    let at : n / 64 ≡ w.at = ap (λ m. m / 64) found.3 ∙ quotient w.at found.0 found.1 in
    let place : n % 64 ≡ found.0 = ap (λ m. m % 64) found.3 ∙ remainder w.at found.0 found.1 in
    (sym at, ap (has_bit w.bits) place ∙ found.2)

-- a number that is held has a word that does not come before the others
held_after : (n at : ℕ) (ws : List Word) → IsBefore at ws → holds n ws ≡ true → at ≡ n / 64 → ⊥
held_after n at ws b h same =
    both_ways _ (ap (λ bits. has_bit bits (n % 64)) (word_bits-before (n / 64) ws (subst (λ i. IsBefore i ws) same b))
    ∙ has_bit-zero (n % 64)) h

pub holds-In : (n : ℕ) (ws : List Word) → IsSparse ws → In n (numbers ws) → holds n ws ≡ true
holds-In n [] s h = absurd h
holds-In n (w ∷ ws) s h =
    elim (In-append_cases n (word_numbers w) (numbers ws) h) [
      | inl here ↦ let is = in_word n w here in rw (eq-eqb w.at (n / 64) is.0) is.1
      | inr there ↦
          let rest = holds-In n ws s.2 there in
          rw (ne_eqb w.at (n / 64) (held_after n w.at ws s.1 rest)) rest
    ]

-- the bounds of numbers that are held
pub holds-within : (n : ℕ) (ws : List Word) → IsSparse ws → holds n ws ≡ true → n ≤ 12884901888
holds-within n [] s h = absurd (both_ways _ (has_bit-zero (n % 64)) h)
holds-within n (w ∷ ws) s h =
    elim (cases_eq w.at (n / 64)) [
      | inl here ↦
          let set : has_bit w.bits (n % 64) ≡ true = (rw (eq-eqb w.at (n / 64) here) at h) in
          let within = s.0.1.1 (n % 64) (place-lt n) set in
          subst (λ m. m ≤ 12884901888) (ap (λ a. a * 64 + n % 64) here ∙ parts n) within
      | inr other ↦ holds-within n ws s.2 (rw (ne_eqb w.at (n / 64) other) at h)
    ]

-- the elements are those of the numbers
pub is_listed-element : (n : ℕ) (ns : List ℕ) → In n ns → is_listed (element_at n) (map element_at ns) ≡ true
is_listed-element n [] h = absurd h
is_listed-element n (m ∷ ms) h =
    elim h [
      | inl same ↦
          or_left _ _ (ap (λ k. Rattle.cc_capture.specs.Elements.same_element (element_at n) (element_at k))
          (sym same) ∙ same_element-itself (element_at n))
      | inr there ↦ or_right _ _ (is_listed-element n ms there)
    ]

pub is_listed-from_elements : (e : Elem) (ns : List ℕ) → is_listed e (map element_at ns) ≡ true
    → (n : ℕ) × In n ns × (e ≡ element_at n)
is_listed-from_elements e [] h = absurd (both_ways false refl h)
is_listed-from_elements e (m ∷ ms) h =
    elim (or_cases _ _ h) [
      | inl same ↦ (m, inl refl, same_element-true e (element_at m) same)
      | inr there ↦ let rest = is_listed-from_elements e ms there in (rest.0, inr rest.1, rest.2)
    ]

-- which numbers the operations' words hold
pub holds-joined : (n : ℕ) (xs ys : List Word) → IsSparse xs → IsSparse ys
    → holds n (joined xs ys) ≡ (holds n xs || holds n ys)
holds-joined n xs ys r s =
    ap (λ bits. has_bit bits (n % 64)) (word_bits-joined (n / 64) xs ys r s) ∙ has_bit-or _ _ (n % 64)

pub holds-single : (n m : ℕ) → holds n (single m ∷ []) ≡ eqb n m
unfolding single
holds-single n m =
    elim (cases_eq (m / 64) (n / 64)) [
      | inl same ↦ rw (eq-eqb (m / 64) (n / 64) same) (has_bit-one_bit (m % 64) (n % 64) (place-lt m) ∙ places same)
      | inr other ↦
          rw (ne_eqb (m / 64) (n / 64) other, ne_eqb n m (λ e. other (ap (λ k. k / 64) (sym e))))
          (has_bit-zero (n % 64))
    ]
  where
    places : m / 64 ≡ n / 64 → eqb (n % 64) (m % 64) ≡ eqb n m
    places same =
        elim (cases_eq (n % 64) (m % 64)) [
          | inl e ↦ rw (eq-eqb (n % 64) (m % 64) e, eq-eqb n m (omega (arith, e, same))) refl
          | inr d ↦ rw (ne_eqb (n % 64) (m % 64) d, ne_eqb n m (λ e. d (ap (λ k. k % 64) e))) refl
        ]

pub holds-without : (n m : ℕ) (ws : List Word) → IsSparse ws → holds n (without m ws) ≡ (holds n ws && not (eqb n m))
holds-without n m ws s =
    ap (λ bits. has_bit bits (n % 64)) (word_bits-without (n / 64) m ws s)
    ∙ elim (cases_eq (m / 64) (n / 64)) [
      | inl same ↦ rw (eq-eqb (m / 64) (n / 64) same)
          (has_bit-cleared (word_bits (n / 64) ws) (m % 64) (n % 64) (place-lt m) (place-lt n)
          ∙ ap (λ b. holds n ws && not b) (places same))
      | inr other ↦
          rw (ne_eqb (m / 64) (n / 64) other, ne_eqb n m (λ e. other (ap (λ k. k / 64) (sym e)))) (kept (holds n ws))
    ]
  where
    places : m / 64 ≡ n / 64 → eqb (n % 64) (m % 64) ≡ eqb n m
    places same =
        elim (cases_eq (n % 64) (m % 64)) [
          | inl e ↦ rw (eq-eqb (n % 64) (m % 64) e, eq-eqb n m (omega (arith, e, same))) refl
          | inr d ↦ rw (ne_eqb (n % 64) (m % 64) d, ne_eqb n m (λ e. d (ap (λ k. k % 64) e))) refl
        ]

    kept : (x : Bool) → x ≡ (x && not false)
    kept true = refl
    kept false = refl

pub IsSparse-single : (n : ℕ) → n ≤ 12884901888 → IsSparse (single n ∷ [])
unfolding single
IsSparse-single n within = (
  (
    one_bit-positive (n % 64) (place-lt n),
    (
      one_bit-lt (n % 64) (place-lt n),
      λ k h e. let same : k ≡ n % 64 = eqb-true k (n % 64)
          (sym (has_bit-one_bit (n % 64) k (place-lt n)) ∙ e) in omega (arith, same, within),
    ),
  ),
  tt,
  tt,
)

-- inclusion
abbrev pub Covers : List Word → List Word → Type 0
Covers xs ys = (n : ℕ) → holds n xs ≡ true → holds n ys ≡ true

not_and : (x y : Bool) → (x ≡ true → y ≡ true) → (x && not y) ≡ false
not_and true true h = refl
not_and true false h = absurd (both_ways false refl (h refl))
not_and false y h = refl

and_not : (x y : Bool) → (x && not y) ≡ false → x ≡ true → y ≡ true
and_not true true h e = refl
and_not true false h e = absurd (both_ways true h refl)
and_not false y h e = absurd (both_ways false refl e)

-- each bit of one word is a bit of the other
pub bits_within : (a b : ℕ) → b < 2 ^ 64 → bit_and a (bit_not w64 b) ≡ 0 → (k : ℕ) → k < 64 → has_bit a k ≡ true
    → has_bit b k ≡ true
bits_within a b within none k h set =
    and_not _ _ (sym (has_bit-and_not a b k within h) ∙ ap (λ bits. has_bit bits k) none ∙ has_bit-zero k) set

pub none_outside : (a b : ℕ) → a < 2 ^ 64 → b < 2 ^ 64 → ((k : ℕ) → k < 64 → has_bit a k ≡ true → has_bit b k ≡ true)
    → bit_and a (bit_not w64 b) ≡ 0
none_outside a b v w all =
    no_bits _ (and_not-lt a (bit_not w64 b) v) (λ k h. has_bit-and_not a b k w h ∙ not_and _ _ (all k h))

pub is_within-Covers : (xs ys : List Word) → IsSparse ys → is_within xs ys ≡ true → Covers xs ys
is_within-Covers [] ys s h n set = absurd (both_ways _ (has_bit-zero (n % 64)) set)
is_within-Covers (x ∷ xs) ys s h n set =
    let both = and_parts _ _ h in
    elim (cases_eq x.at (n / 64)) [
      | inl here ↦
          let bit : has_bit x.bits (n % 64) ≡ true = (rw (eq-eqb x.at (n / 64) here) at set) in
          subst (λ at. has_bit (word_bits at ys) (n % 64) ≡ true) here
          (bits_within x.bits (word_bits x.at ys) (word_bits-lt x.at ys s) (eqb-true _ 0 both.0) (n % 64)
          (place-lt n) bit)
      | inr other ↦ is_within-Covers xs ys s both.1 n (rw (ne_eqb x.at (n / 64) other) at set)
    ]

pub is_within-from_Covers : (xs ys : List Word) → IsSparse xs → IsSparse ys → Covers xs ys → is_within xs ys ≡ true
is_within-from_Covers [] ys r s all = refl
is_within-from_Covers (x ∷ xs) ys r s all =
    and_from _ _
    (eq-eqb _ 0 (none_outside x.bits (word_bits x.at ys) r.0.1.0 (word_bits-lt x.at ys s)
    (λ k h set.
    let held : holds (x.at * 64 + k) (x ∷ xs) ≡ true =
    rw (quotient x.at k h, remainder x.at k h, eq-eqb x.at x.at refl) set in
    (rw (quotient x.at k h, remainder x.at k h) at (all (x.at * 64 + k) held)))))
    (is_within-from_Covers xs ys r.2 s
    (λ n set. all n (rw (ne_eqb x.at (n / 64) (held_after n x.at xs r.1 set)) set)))

-- words that hold the same numbers are the same words
word_bits-same : (xs ys : List Word) → IsSparse xs → IsSparse ys → ((n : ℕ) → holds n xs ≡ holds n ys) → (at : ℕ)
    → word_bits at xs ≡ word_bits at ys
word_bits-same xs ys r s same at =
    same_bits _ _ (word_bits-lt at xs r) (word_bits-lt at ys s)
    (λ k h. (rw (quotient at k h, remainder at k h) at (same (at * 64 + k))))

positive_bits : (w : Word) (ws : List Word) → IsWord w → word_bits w.at (w ∷ ws) ≡ 0 → ⊥
positive_bits w ws v none = let is = word_bits-first w ws in omega (arith, is, none, v.0)

same_tail : (x y : Word) (xs ys : List Word) → x.at ≡ y.at → IsBefore x.at xs → IsBefore y.at ys
    → ((at : ℕ) → word_bits at (x ∷ xs) ≡ word_bits at (y ∷ ys)) → (at : ℕ) → word_bits at xs ≡ word_bits at ys
same_tail x y xs ys e b c same at =
    elim (cases_eq x.at at) [
      | inl here ↦
          word_bits-before at xs (subst (λ i. IsBefore i xs) here b)
          ∙ sym (word_bits-before at ys (subst (λ i. IsBefore i ys) (sym e ∙ here) c))
      | inr other ↦
          sym (word_bits-other at x xs other) ∙ same at ∙ word_bits-other at y ys (λ d. other (e ∙ d))
    ]

same_from_bits : (xs ys : List Word) → IsSparse xs → IsSparse ys → ((at : ℕ) → word_bits at xs ≡ word_bits at ys)
    → xs ≡ ys
same_from_bits [] [] r s same = refl
same_from_bits [] (y ∷ ys) r s same = absurd (positive_bits y ys s.0 (sym (same y.at)))
same_from_bits (x ∷ xs) [] r s same = absurd (positive_bits x xs r.0 (same x.at))
same_from_bits (x ∷ xs) (y ∷ ys) r s same =
    elim (cases_order x.at y.at) [
      | inl e ↦
          let bits : x.bits ≡ y.bits =
          sym (word_bits-first x xs) ∙ same x.at ∙ ap (λ at. word_bits at (y ∷ ys)) e ∙ word_bits-first y ys in
          let rest : xs ≡ ys = same_from_bits xs ys r.2 s.2 (same_tail x y xs ys e r.1 s.1 same) in
          λ i. record { at = e i; bits = bits i } ∷ rest i
      | inr other ↦ absurd (elim other [
        | inl less ↦
            positive_bits x xs r.0 (same x.at ∙ word_bits-before x.at (y ∷ ys)
            (less, IsBefore-trans x.at y.at ys (omega (arith, less)) s.1))
        | inr more ↦
            positive_bits y ys s.0 (sym (same y.at)
            ∙ word_bits-before y.at (x ∷ xs) (more, IsBefore-trans y.at x.at xs (omega (arith, more)) r.1))
      ])
    ]

pub same_from_holds : (xs ys : List Word) → IsSparse xs → IsSparse ys → ((n : ℕ) → holds n xs ≡ holds n ys) → xs ≡ ys
same_from_holds xs ys r s same = same_from_bits xs ys r s (word_bits-same xs ys r s same)

pub same_words-true : (xs ys : List Word) → same_words xs ys ≡ true → xs ≡ ys
same_words-true [] [] h = refl
same_words-true [] (y ∷ ys) h = cc
same_words-true (x ∷ xs) [] h = cc
same_words-true (x ∷ xs) (y ∷ ys) h =
    let both = and_parts _ _ h in
    let word = and_parts _ _ both.0 in
    let at : x.at ≡ y.at = eqb-true x.at y.at word.0 in
    let bits : x.bits ≡ y.bits = eqb-true x.bits y.bits word.1 in
    let rest = same_words-true xs ys both.1 in
    λ i. record { at = at i; bits = bits i } ∷ rest i

pub same_words-itself : (xs : List Word) → same_words xs xs ≡ true
same_words-itself [] = refl
same_words-itself (x ∷ xs) =
    and_from _ _ (and_from _ _ (eq-eqb x.at x.at refl) (eq-eqb x.bits x.bits refl)) (same_words-itself xs)

-- how many numbers there are
pub length-numbers : (ws : List Word) → IsSparse ws → length (numbers ws) ≤ 12884901889
length-numbers ws s =
    let c = Climbs-numbers ws s in
    let below =
    Climbs-below 0 c.0 12884901889 (numbers ws) (omega arith)
    (λ n h. let within = holds-within n ws s (holds-In n ws s h) in omega (arith, within)) c.1 in
    let long = Climbs-length 0 12884901889 (numbers ws) below in
    omega (arith, long)

pub length-word_numbers : (w : Word) → w.bits < 2 ^ 64
    → length (word_numbers w) ≡ Rattle.std.specs.Prelude.count_ones w.bits
length-word_numbers w h = length-map (bit_places w.bits) (λ place. w.at * 64 + place) ∙ length-bit_places w.bits h

pub length-numbers_cons : (w : Word) (ws : List Word) → w.bits < 2 ^ 64
    → length (numbers (w ∷ ws)) ≡ Rattle.std.specs.Prelude.count_ones w.bits + length (numbers ws)
length-numbers_cons w ws h =
    length-append (word_numbers w) (numbers ws) ∙ ap (λ n. n + length (numbers ws)) (length-word_numbers w h)

-- a word is its lowest number and what is left without that bit
pub word_numbers-lowest : (w : Word) → IsWord w
    → word_numbers w ≡ (w.at * 64 + trailing_zeros w64 w.bits) ∷ word_numbers
    (record { at = w.at; bits = bit_and w.bits (bit_not w64 (one_bit (trailing_zeros w64 w.bits))) })
word_numbers-lowest w s = ap (map (λ place. w.at * 64 + place)) (bit_places-lowest w.bits s.0 s.1.0)

pub lowest-within : (w : Word) → IsWord w → w.at * 64 + trailing_zeros w64 w.bits ≤ 12884901888
lowest-within w s = let bit = some_bit w.bits s.0 s.1.0 in s.1.1 (trailing_zeros w64 w.bits) bit.0 bit.1

pub IsBounded-others : (w : Word) → IsWord w
    → IsBounded (record { at = w.at; bits = bit_and w.bits (bit_not w64 (one_bit (trailing_zeros w64 w.bits))) })
IsBounded-others w s =
    let bit = some_bit w.bits s.0 s.1.0 in (
      and_not-lt w.bits _ s.1.0,
      λ k h e. s.1.1 k h (and_parts _ _ (sym (has_bit-cleared w.bits (trailing_zeros w64 w.bits) k bit.0 h) ∙ e)).0,
    )

-- a word with no bit has no element
pub elements-none : (at : ℕ) (ws : List Word) → elements (record { at = at; bits = 0 } ∷ ws) ≡ elements ws
elements-none at ws =
    ap (λ places. map element_at (map (λ place. at * 64 + place) places ++ numbers ws)) bit_places-zero

-- the first word holds a number
pub held_first : (w : Word) (ws : List Word) → IsSparse (w ∷ ws) → (n : ℕ) × (holds n (w ∷ ws) ≡ true)
held_first w ws s =
    let bit = some_bit w.bits s.0.0 s.0.1.0 in
    let k = trailing_zeros w64 w.bits in
    (w.at * 64 + k, rw (quotient w.at k bit.0, remainder w.at k bit.0, eq-eqb w.at w.at refl) bit.1)

-- the number at an index
pub slice_get-left : (ms ns : List ℕ) (i : ℕ) → i < length ms → slice_get (ms ++ ns) i ≡ slice_get ms i
slice_get-left [] ns i h = absurd (omega arith)
slice_get-left (m ∷ ms) ns zero h = refl
slice_get-left (m ∷ ms) ns (suc i) h = slice_get-left ms ns i (omega arith)

pub slice_get-right : (ms ns : List ℕ) (i : ℕ) → length ms ≤ i → slice_get (ms ++ ns) i ≡ slice_get ns (i - length ms)
slice_get-right [] ns i h = ap (slice_get ns) (omega arith)
slice_get-right (m ∷ ms) ns zero h = absurd (omega arith)
slice_get-right (m ∷ ms) ns (suc i) h = slice_get-right ms ns i (omega arith) ∙ ap (slice_get ns) (omega arith)

pub In-slice_get : (ns : List ℕ) (i n : ℕ) → slice_get ns i ≡ Some n → In n ns
In-slice_get [] i n e = absurd (none_some n e)
  where
    none_some : (n : ℕ) → ◌≡◌ {A = Option ℕ} None (Some n) → ⊥
    none_some n e = cc
In-slice_get (m ∷ ms) zero n e = inl (some_same m n e)
  where
    some_same : (m n : ℕ) → ◌≡◌ {A = Option ℕ} (Some m) (Some n) → n ≡ m
    some_same m n e = cc
In-slice_get (m ∷ ms) (suc i) n e = inr (In-slice_get ms i n e)

pub number-within : (ws : List Word) (i n : ℕ) → IsSparse ws → slice_get (numbers ws) i ≡ Some n → n ≤ 12884901888
number-within ws i n s e = holds-within n ws s (holds-In n ws s (In-slice_get (numbers ws) i n e))

pub slice_get-elements : (ns : List ℕ) (i : ℕ)
    → slice_get (map element_at ns) i ≡ option_map element_at (slice_get ns i)
slice_get-elements [] i = refl
slice_get-elements (n ∷ ns) zero = refl
slice_get-elements (n ∷ ns) (suc i) = slice_get-elements ns i

-- a word with a number is not 0
pub bits-positive : (w : Word) (i : ℕ) → i < length (word_numbers w) → 0 < w.bits
bits-positive w i h =
    elim (cases_lt 0 w.bits) [
      | inl more ↦ more
      | inr none ↦
          let zero_bits : w.bits ≡ 0 = omega (arith, none) in
          let no_place : length (word_numbers w) ≡ 0 =
          ap (λ b. length (map (λ place. w.at * 64 + place) (bit_places b))) zero_bits
          ∙ ap (λ places. length (map (λ place. w.at * 64 + place) places)) bit_places-zero in
          omega (arith, no_place, h)
    ]

-- an index in a list that begins with a number
pub slice_get-next : (ns : List ℕ) (m : ℕ) (ms : List ℕ) (i : ℕ) → 0 < i → ns ≡ m ∷ ms
    → slice_get ms (i - 1) ≡ slice_get ns i
slice_get-next ns m ms zero h e = absurd (omega arith)
slice_get-next ns m ms (suc i) h e = ap (slice_get ms) (omega arith) ∙ ap (λ ks. slice_get ks (suc i)) (sym e)

pub slice_get-first : (ns : List ℕ) (m : ℕ) (ms : List ℕ) (i : ℕ) → i ≤ 0 → ns ≡ m ∷ ms → Some m ≡ slice_get ns i
slice_get-first ns m ms zero h e = ap (λ ks. slice_get ks zero) (sym e)
slice_get-first ns m ms (suc i) h e = absurd (omega arith)

-- the elements from a word on, once its lowest number is taken
pub elements-next : (w v : Word) (n : ℕ) (ws : List Word) → word_numbers w ≡ n ∷ word_numbers v
    → elements (w ∷ ws) ≡ element_at n ∷ elements (v ∷ ws)
elements-next w v n ws e = ap (λ ns. map element_at (ns ++ numbers ws)) e

pub elements-skip : (w : Word) (ws : List Word) → w.bits ≡ 0 → elements (w ∷ ws) ≡ elements ws
elements-skip w ws e = ap (λ bits. elements (record { at = w.at; bits = bits } ∷ ws)) e ∙ elements-none w.at ws
