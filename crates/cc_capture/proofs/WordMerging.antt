-- How two lists of words are gone over together.
use Rattle.std.proofs.Common.{◌≡◌, ℕ, zero, suc, ◌+◌, ◌<◌, ◌≤◌, false, ◌&&◌, eqb, nat_eq, List, [], ◌∷◌, ◌++◌, length}
use Rattle.std.proofs.Common.{get_or, drop, inl, inr, ◌⊎◌, refl, sym, ap, ◌∙◌, subst, add-one, append_assoc}
use Rattle.std.proofs.Common.{drop_of_length-le, drop-cons, arith}
use Rattle.std.specs.Int.{w64, bit_not}
use Rattle.std.specs.Prelude.{◌-◌, bit_and, bit_or, count_ones, slice_get}
use Rattle.std.specs.Ordering.{nat_cmp, MatchOrdering}
use Rattle.std.proofs.lemmas.Cmp.{ranked}
use Rattle.std.specs.declared.cmp.Ordering.TheVariants.{Less, Equal, Greater}
use Rattle.std.proofs.lemmas.List.{append-nil}
use Rattle.std.proofs.lemmas.Bool.{and_left, eq-eqb, ne_eqb, both_ways, cases_lt}
use Rattle.cc_capture.specs.declared.words.Word.{Word}
use Rattle.cc_capture.specs.Words.{word_bits, IsBefore, IsWord, IsSparse, joined, is_within, word_numbers, numbers}
use Rattle.cc_capture.proofs.Bits.{some_bit, has_bit-zero}
use Rattle.cc_capture.proofs.SparseWords.{IsBefore-trans, IsSparse-drop, word_bits-before, word_bits-first}
use Rattle.cc_capture.proofs.SparseWords.{word_bits-other, joined-left_end, joined-right_end, joined-less}
use Rattle.cc_capture.proofs.SparseWords.{joined-equal, joined-greater}
use Rattle.cc_capture.proofs.WordElements.{bits_within, length-word_numbers, length-numbers_cons, slice_get-left}
use Rattle.cc_capture.proofs.WordElements.{slice_get-right}

pub drop_at : (i : ℕ) (d : Word) (xs : List Word) → i < length xs → drop i xs ≡ get_or xs i d ∷ drop (i + 1) xs
drop_at i d xs h = rw add-one (drop-cons xs i d h)

pub sparse_at : (i : ℕ) (d : Word) (xs : List Word) → IsSparse xs → i < length xs
    → IsSparse (get_or xs i d ∷ drop (i + 1) xs)
sparse_at i d xs r h = subst IsSparse (drop_at i d xs h) (IsSparse-drop i xs r)

-- a word before all others plays no part
is_within-skip : (y : Word) (xs ys : List Word) → IsBefore y.at xs → is_within xs (y ∷ ys) ≡ is_within xs ys
is_within-skip y [] ys b = refl
is_within-skip y (x ∷ xs) ys b =
    rw (word_bits-other x.at y ys (λ same. omega (arith, same, b.0)), is_within-skip y xs ys b.1) refl

-- bits are not within none
missing : (x : Word) → IsWord x → eqb (bit_and x.bits (bit_not w64 0)) 0 ≡ false
missing x v =
    ne_eqb _ 0 (λ none.
    let bit = some_bit x.bits v.0 v.1.0 in
    both_ways _ (has_bit-zero _) (bits_within x.bits 0 (omega arith) none _ bit.0 bit.1))

is_within-missing : (x y : Word) (xs ys : List Word) → IsWord x → IsSparse (y ∷ ys) → x.at < y.at
    → is_within (x ∷ xs) (y ∷ ys) ≡ false
is_within-missing x y xs ys v s less =
    and_left (eqb (bit_and x.bits (bit_not w64 (word_bits x.at (y ∷ ys)))) 0) (is_within xs (y ∷ ys))
    (rw (word_bits-before x.at (y ∷ ys) (less, IsBefore-trans x.at y.at ys (omega (arith, less)) s.1)) (missing x v))

is_within-both : (x y : Word) (xs ys : List Word) → IsSparse (x ∷ xs) → x.at ≡ y.at
    → is_within (x ∷ xs) (y ∷ ys) ≡ (eqb (bit_and x.bits (bit_not w64 y.bits)) 0 && is_within xs ys)
is_within-both x y xs ys r same =
    rw (
      ap (λ at. word_bits at (y ∷ ys)) same
          ∙ word_bits-first y ys,
      is_within-skip y xs ys (subst (λ i. IsBefore i xs) same r.1),
    ) refl

is_within-later : (x y : Word) (xs ys : List Word) → IsSparse (x ∷ xs) → y.at < x.at
    → is_within (x ∷ xs) (y ∷ ys) ≡ is_within (x ∷ xs) ys
is_within-later x y xs ys r more =
    is_within-skip y (x ∷ xs) ys (more, IsBefore-trans y.at x.at xs (omega (arith, more)) r.1)

-- the same, at two indexes of the lists
module _ (xs ys : List Word) (i j : ℕ) (d e : Word) (r : IsSparse xs) (s : IsSparse ys) (h : i < length xs)
    (k : j < length ys) where
  is_within-at : is_within (drop i xs) (drop j ys) ≡ is_within (get_or xs i d ∷ drop (i + 1) xs)
      (get_or ys j e ∷ drop (j + 1) ys)
  is_within-at t = is_within (drop_at i d xs h t) (drop_at j e ys k t)

  pub is_within-at_less : (get_or xs i d).at < (get_or ys j e).at → is_within (drop i xs) (drop j ys) ≡ false
  is_within-at_less less =
      is_within-at ∙ is_within-missing _ _ (drop (i + 1) xs) (drop (j + 1) ys) (sparse_at i d xs r h).0
      (sparse_at j e ys s k) less

  pub is_within-at_equal : (get_or xs i d).at ≡ (get_or ys j e).at
      → bit_and (get_or xs i d).bits (bit_not w64 (get_or ys j e).bits) ≡ 0
      → is_within (drop i xs) (drop j ys) ≡ is_within (drop (i + 1) xs) (drop (j + 1) ys)
  is_within-at_equal same none =
      is_within-at
      ∙ is_within-both _ _ (drop (i + 1) xs) (drop (j + 1) ys) (sparse_at i d xs r h) same
      ∙ ap (λ b. b && is_within (drop (i + 1) xs) (drop (j + 1) ys)) (eq-eqb _ 0 none)

  pub is_within-at_outside : (get_or xs i d).at ≡ (get_or ys j e).at
      → (bit_and (get_or xs i d).bits (bit_not w64 (get_or ys j e).bits) ≡ 0 → ⊥)
      → is_within (drop i xs) (drop j ys) ≡ false
  is_within-at_outside same some =
      is_within-at
      ∙ is_within-both _ _ (drop (i + 1) xs) (drop (j + 1) ys) (sparse_at i d xs r h) same
      ∙ and_left _ _ (ne_eqb _ 0 some)

  pub is_within-at_greater : (get_or ys j e).at < (get_or xs i d).at
      → is_within (drop i xs) (drop j ys) ≡ is_within (drop i xs) (drop (j + 1) ys)
  is_within-at_greater more =
      is_within-at
      ∙ is_within-later _ _ (drop (i + 1) xs) (drop (j + 1) ys) (sparse_at i d xs r h) more
      ∙ ap (λ zs. is_within zs (drop (j + 1) ys)) (sym (drop_at i d xs h))

pub is_within-nothing : (i : ℕ) (xs : List Word) → IsSparse xs → i < length xs → is_within (drop i xs) [] ≡ false
is_within-nothing i [] r h = absurd (omega arith)
is_within-nothing zero (x ∷ xs) r h = and_left _ _ (missing x r.0)
is_within-nothing (suc i) (x ∷ xs) r h = is_within-nothing i xs r.2 (omega arith)

pub is_within-ended : (xs ys : List Word) (i j : ℕ) → IsSparse xs → i ≤ length xs → (length xs ≤ i) ⊎ (length ys ≤ j)
    → nat_eq i (length xs) ≡ is_within (drop i xs) (drop j ys)
is_within-ended xs ys i j r h ended =
    elim (cases_lt i (length xs)) [
      | inl more ↦ let past : length ys ≤ j = elim ended [ inl left ↦ absurd (omega arith) | inr right ↦ right ] in
          rw (ne_eqb i (length xs) (omega arith), drop_of_length-le ys past) (sym (is_within-nothing i xs r more))
      | inr none ↦ rw (eq-eqb i (length xs) (omega arith), drop_of_length-le xs none) refl
    ]

-- joins
module _ (xs ys : List Word) (i j : ℕ) (d e : Word) (h : i < length xs) (k : j < length ys) where
  joined-at : joined (drop i xs) (drop j ys) ≡ joined (get_or xs i d ∷ drop (i + 1) xs)
      (get_or ys j e ∷ drop (j + 1) ys)
  joined-at t = joined (drop_at i d xs h t) (drop_at j e ys k t)

  pub joined-at_less : (get_or xs i d).at < (get_or ys j e).at
      → joined (drop i xs) (drop j ys) ≡ get_or xs i d ∷ joined (drop (i + 1) xs) (drop j ys)
  joined-at_less less =
      joined-at
      ∙ joined-less _ _ (drop (i + 1) xs) (drop (j + 1) ys) less
      ∙ ap (λ zs. get_or xs i d ∷ joined (drop (i + 1) xs) zs) (sym (drop_at j e ys k))

  pub joined-at_equal : (get_or xs i d).at ≡ (get_or ys j e).at
      → joined (drop i xs) (drop j ys)
      ≡ record { at = (get_or xs i d).at; bits = bit_or (get_or xs i d).bits (get_or ys j e).bits } ∷ joined
      (drop (i + 1) xs) (drop (j + 1) ys)
  joined-at_equal same = joined-at ∙ joined-equal _ _ (drop (i + 1) xs) (drop (j + 1) ys) same

  pub joined-at_greater : (get_or ys j e).at < (get_or xs i d).at
      → joined (drop i xs) (drop j ys) ≡ get_or ys j e ∷ joined (drop i xs) (drop (j + 1) ys)
  joined-at_greater more =
      joined-at
      ∙ joined-greater _ _ (drop (i + 1) xs) (drop (j + 1) ys) more
      ∙ ap (λ zs. get_or ys j e ∷ joined zs (drop (j + 1) ys)) (sym (drop_at i d xs h))

pub joined-ended : (xs ys : List Word) (i j : ℕ) → (length xs ≤ i) ⊎ (length ys ≤ j)
    → drop i xs ++ drop j ys ≡ joined (drop i xs) (drop j ys)
joined-ended xs ys i j ended =
    elim ended [
      | inl left ↦ rw (drop_of_length-le xs left) (sym (joined-left_end (drop j ys)))
      | inr right ↦ rw (drop_of_length-le ys right, append-nil) (sym (joined-right_end (drop i xs)))
    ]

-- one more word goes to the end of what is joined so far
pub joined_so_far : (out : List Word) (x : Word) (before after whole : List Word) → out ++ before ≡ whole
    → before ≡ x ∷ after → (out ++ x ∷ []) ++ after ≡ whole
joined_so_far out x before after whole all first = rw append_assoc (ap (λ zs. out ++ zs) (sym first) ∙ all)

-- how many numbers are in the words from an index on
pub length-numbers_at : (i : ℕ) (d : Word) (ws : List Word) → IsSparse ws → i < length ws
    → length (numbers (drop i ws)) ≡ count_ones (get_or ws i d).bits + length (numbers (drop (i + 1) ws))
length-numbers_at i d ws s h =
    ap (λ xs. length (numbers xs)) (drop_at i d ws h)
    ∙ length-numbers_cons (get_or ws i d) (drop (i + 1) ws) (sparse_at i d ws s h).0.1.0

-- what a comparison of indexes says
pub cmp-Less : (m n : ℕ) → nat_cmp m n ≡ Less → m < n
cmp-Less m n e = subst (λ o. MatchOrdering o (m < n) (m ≡ n) (n < m)) e (ranked m n (nat_cmp m n) refl)

pub cmp-Equal : (m n : ℕ) → nat_cmp m n ≡ Equal → m ≡ n
cmp-Equal m n e = subst (λ o. MatchOrdering o (m < n) (m ≡ n) (n < m)) e (ranked m n (nat_cmp m n) refl)

pub cmp-Greater : (m n : ℕ) → nat_cmp m n ≡ Greater → n < m
cmp-Greater m n e = subst (λ o. MatchOrdering o (m < n) (m ≡ n) (n < m)) e (ranked m n (nat_cmp m n) refl)

-- the number at an index, in the words from one on: in that word, or in those after it
pub slice_get-in : (i : ℕ) (d : Word) (ws : List Word) (k : ℕ) → IsSparse ws → i < length ws
    → k < count_ones (get_or ws i d).bits
    → slice_get (word_numbers (get_or ws i d)) k ≡ slice_get (numbers (drop i ws)) k
slice_get-in i d ws k s h less =
    let count = length-word_numbers (get_or ws i d) (sparse_at i d ws s h).0.1.0 in
    sym (slice_get-left (word_numbers (get_or ws i d)) (numbers (drop (i + 1) ws)) k (omega (arith, count, less)))
    ∙ ap (λ vs. slice_get (numbers vs) k) (sym (drop_at i d ws h))

pub slice_get-after : (i : ℕ) (d : Word) (ws : List Word) (k : ℕ) → IsSparse ws → i < length ws
    → count_ones (get_or ws i d).bits ≤ k
    → slice_get (numbers (drop (i + 1) ws)) (k - count_ones (get_or ws i d).bits) ≡ slice_get (numbers (drop i ws)) k
slice_get-after i d ws k s h more =
    let count = length-word_numbers (get_or ws i d) (sparse_at i d ws s h).0.1.0 in
    ap (λ n. slice_get (numbers (drop (i + 1) ws)) (k - n)) (sym count)
    ∙ sym (slice_get-right (word_numbers (get_or ws i d)) (numbers (drop (i + 1) ws)) k (omega (arith, count, more)))
    ∙ ap (λ vs. slice_get (numbers vs) k) (sym (drop_at i d ws h))
