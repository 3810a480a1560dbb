-- Words in the order of their indexes: the bits at an index, at the place of a word, and in words that are joined or
-- lose a number.
use Rattle.std.proofs.Common.{◌≡◌, ℕ, zero, suc, ◌/◌, ◌%◌, ◌^◌, ◌<◌, ◌≤◌, true, false, cond, ltb, eqb, List, [], ◌∷◌}
use Rattle.std.proofs.Common.{length, get_or, drop, inl, inr, refl, sym, ap, ◌∙◌, subst, arith}
use Rattle.std.specs.Int.{w64, bit_not}
use Rattle.std.specs.Prelude.{bit_and, bit_or}
use Rattle.std.specs.Int.Bits.{or_zero_l, or_zero_r, and_zero_l}
use Rattle.std.specs.List.Sorted.{IsPartitionedBy, IsPartitionPoint}
use Rattle.std.proofs.lemmas.Nat.{or_lt, pow_pos, le_or_l}
use Rattle.std.proofs.lemmas.Bool.{lt-ltb, le-ltb, ltb-true, ltb-false, eq-eqb, ne_eqb, eqb-true, both_ways, cases_lt}
use Rattle.std.proofs.lemmas.Bool.{cases_eq, cases_order, cases_Bool}
use Rattle.cc_capture.specs.declared.words.Word.{Word}
use Rattle.cc_capture.specs.Words.{word_bits, IsBefore, IsBounded, IsWord, IsSparse, place, joined, joined_from}
use Rattle.cc_capture.specs.Words.{without}
use Rattle.cc_capture.proofs.Bits.{one_bit, has_bit-or, has_bit-cleared, and_not-lt}

pub IsBefore-trans : (i j : ℕ) (ws : List Word) → i ≤ j → IsBefore j ws → IsBefore i ws
IsBefore-trans i j [] l b = tt
IsBefore-trans i j (w ∷ ws) l b = (omega (arith, l, b.0), IsBefore-trans i j ws l b.1)

-- no word has an index that comes before all of them
pub word_bits-before : (at : ℕ) (ws : List Word) → IsBefore at ws → word_bits at ws ≡ 0
word_bits-before at [] b = refl
word_bits-before at (w ∷ ws) b = rw (ne_eqb w.at at (λ e. omega (arith, e, b.0))) (word_bits-before at ws b.1)

pub word_bits-first : (w : Word) (ws : List Word) → word_bits w.at (w ∷ ws) ≡ w.bits
word_bits-first w ws = rw (eq-eqb w.at w.at refl) refl

pub word_bits-other : (at : ℕ) (w : Word) (ws : List Word) → (w.at ≡ at → ⊥) → word_bits at (w ∷ ws) ≡ word_bits at ws
word_bits-other at w ws e = rw (ne_eqb w.at at e) refl

pub word_bits-lt : (at : ℕ) (ws : List Word) → IsSparse ws → word_bits at ws < 2 ^ 64
word_bits-lt at [] s = pow_pos 64
word_bits-lt at (w ∷ ws) s =
    elim (eqb w.at at) as (λ b. cond b w.bits (word_bits at ws) < 2 ^ 64)
    [ true ↦ s.0.1.0 | false ↦ word_bits-lt at ws s.2 ]

pub IsSparse-drop : (i : ℕ) (ws : List Word) → IsSparse ws → IsSparse (drop i ws)
IsSparse-drop zero ws s = s
IsSparse-drop (suc i) [] s = tt
IsSparse-drop (suc i) (w ∷ ws) s = IsSparse-drop i ws s.2

-- the place of an index
get_or-after : (at : ℕ) (ws : List Word) (j : ℕ) (d : Word) → IsBefore at ws → j < length ws → at < (get_or ws j d).at
get_or-after at [] j d b h = absurd (omega arith)
get_or-after at (w ∷ ws) zero d b h = b.0
get_or-after at (w ∷ ws) (suc j) d b h = get_or-after at ws j d b.1 (omega arith)

get_or-order : (ws : List Word) (i j : ℕ) (d : Word) → IsSparse ws → i < j → j < length ws
    → (get_or ws i d).at < (get_or ws j d).at
get_or-order [] i j d s l h = absurd (omega arith)
get_or-order (w ∷ ws) i zero d s l h = absurd (omega arith)
get_or-order (w ∷ ws) zero (suc j) d s l h = get_or-after w.at ws j d s.1 (omega arith)
get_or-order (w ∷ ws) (suc i) (suc j) d s l h = get_or-order ws i j d s.2 (omega arith) (omega arith)

pub IsPartitionedBy-sparse : (at : ℕ) (ws : List Word) → IsSparse ws → IsPartitionedBy (λ w. ltb w.at at) ws
IsPartitionedBy-sparse at ws s i j d l h passes =
    elim (cases_eq i j) [
      | inl same ↦ subst (λ k. ltb (get_or ws k d).at at ≡ true) (sym same) passes
      | inr other ↦
          let less : (get_or ws i d).at < (get_or ws j d).at = get_or-order ws i j d s (omega arith) h in
          let below : (get_or ws j d).at < at = ltb-true _ at passes in
          lt-ltb _ at (omega (arith, less, below))
    ]

pub place_is : (at : ℕ) (ws : List Word) (i : ℕ) → i ≤ length ws
    → IsPartitionPoint (λ w. ltb w.at at ≡ true) (λ w. ltb w.at at ≡ false) ws i → i ≡ place at ws
place_is at [] i h p = omega arith
place_is at (w ∷ ws) zero h p =
    let first : ltb w.at at ≡ false = p.1 0 w (omega arith) (omega arith) in rw first refl
place_is at (w ∷ ws) (suc i) h p =
    let first : ltb w.at at ≡ true = p.0 0 w (omega arith) (omega arith) in
    let rest : i ≡ place at ws =
    place_is at ws i (omega arith) (
      λ k d a b. p.0 (suc k) d (omega arith) (omega arith),
      λ k d a b. p.1 (suc k) d
          (omega arith) (omega arith),
    ) in
    rw first (ap suc rest)

pub place-le-length : (at : ℕ) (ws : List Word) → place at ws ≤ length ws
place-le-length at [] = omega arith
place-le-length at (w ∷ ws) =
    let rest = place-le-length at ws in
    elim (ltb w.at at) as (λ b. cond b (suc (place at ws)) zero ≤ suc (length ws))
    [ true ↦ omega arith | false ↦ omega arith ]

-- what is at the place of an index
pub word_bits-at_place : (at : ℕ) (ws : List Word) (d : Word) → place at ws < length ws
    → (get_or ws (place at ws) d).at ≡ at → (get_or ws (place at ws) d).bits ≡ word_bits at ws
word_bits-at_place at [] d h e = absurd (omega arith)
word_bits-at_place at (w ∷ ws) d h e =
    elim (ltb w.at at) as (λ b. ltb w.at at ≡ b → cond b (suc (place at ws)) zero < suc (length ws) →
    (get_or (w ∷ ws) (cond b (suc (place at ws)) zero) d).at ≡ at →
    (get_or (w ∷ ws) (cond b (suc (place at ws)) zero) d).bits ≡ word_bits at (w ∷ ws)) [
      | true ↦ λ less in' is.
          let below : w.at < at = ltb-true w.at at less in
          word_bits-at_place at ws d (omega arith) is
          ∙ sym (word_bits-other at w ws (λ same. omega (arith, same, below)))
      | false ↦ λ _ _ is. rw (eq-eqb w.at at is) refl
    ] refl h e

pub word_bits-not_at_place : (at : ℕ) (ws : List Word) (d : Word) → IsSparse ws
    → (place at ws < length ws → (get_or ws (place at ws) d).at ≡ at → ⊥) → word_bits at ws ≡ 0
word_bits-not_at_place at [] d s n = refl
word_bits-not_at_place at (w ∷ ws) d s n =
    elim (cases_lt w.at at) [
      | inl less ↦
          let rest : place at ws < length ws → (get_or ws (place at ws) d).at ≡ at → ⊥ =
          λ h e. (rw (lt-ltb w.at at less) at n) (omega arith) e in
          word_bits-other at w ws (λ same. omega (arith, same, less)) ∙ word_bits-not_at_place at ws d s.2 rest
      | inr past ↦
          let differs : w.at ≡ at → ⊥ = λ e. (rw (le-ltb w.at at past) at n) (omega arith) e in
          word_bits-other at w ws differs ∙ word_bits-before at ws (IsBefore-trans at w.at ws past s.1)
    ]

-- one step of a join
pub joined-left_end : (ys : List Word) → joined [] ys ≡ ys
unfolding joined
joined-left_end ys = refl

pub joined-right_end : (xs : List Word) → joined xs [] ≡ xs
unfolding joined joined_from
joined-right_end [] = refl
joined-right_end (x ∷ xs) = ap (λ zs. x ∷ zs) (joined-right_end xs)

pub joined-less : (x y : Word) (xs ys : List Word) → x.at < y.at → joined (x ∷ xs) (y ∷ ys) ≡ x ∷ joined xs (y ∷ ys)
unfolding joined joined_from
joined-less x y xs ys less = rw (lt-ltb x.at y.at less) refl

pub joined-greater : (x y : Word) (xs ys : List Word) → y.at < x.at → joined (x ∷ xs) (y ∷ ys) ≡ y ∷ joined (x ∷ xs) ys
unfolding joined joined_from
joined-greater x y xs ys more = rw (le-ltb x.at y.at (omega (arith, more)), lt-ltb y.at x.at more) refl

pub joined-equal : (x y : Word) (xs ys : List Word) → x.at ≡ y.at
    → joined (x ∷ xs) (y ∷ ys) ≡ record { at = x.at; bits = bit_or x.bits y.bits } ∷ joined xs ys
unfolding joined joined_from
joined-equal x y xs ys same = rw (le-ltb x.at y.at (omega (arith, same)), le-ltb y.at x.at (omega (arith, same))) refl

-- by cases on how the first words stand
by_index : (x y : Word) (xs ys : List Word) (P : List Word → Type 0) → (x.at < y.at → P (x ∷ joined xs (y ∷ ys)))
    → (x.at ≡ y.at → P (record { at = x.at; bits = bit_or x.bits y.bits } ∷ joined xs ys))
    → (y.at < x.at → P (y ∷ joined (x ∷ xs) ys)) → P (joined (x ∷ xs) (y ∷ ys))
by_index x y xs ys P less equal greater =
    elim (cases_order x.at y.at) [
      | inl same ↦ subst P (sym (joined-equal x y xs ys same)) (equal same)
      | inr other ↦ elim other [
        | inl l ↦ subst P (sym (joined-less x y xs ys l)) (less l)
        | inr m ↦ subst P (sym (joined-greater x y xs ys m)) (greater m)
      ]
    ]

-- the bits of a join are those of both
pub word_bits-joined : (at : ℕ) (xs ys : List Word) → IsSparse xs → IsSparse ys
    → word_bits at (joined xs ys) ≡ bit_or (word_bits at xs) (word_bits at ys)
word_bits-joined at [] ys r s = ap (word_bits at) (joined-left_end ys) ∙ sym (or_zero_l (word_bits at ys))
word_bits-joined at (x ∷ xs) [] r s =
    ap (word_bits at) (joined-right_end (x ∷ xs)) ∙ sym (or_zero_r (word_bits at (x ∷ xs)))
word_bits-joined at (x ∷ xs) (y ∷ ys) r s =
    by_index x y xs ys (λ zs. word_bits at zs ≡ bit_or (word_bits at (x ∷ xs)) (word_bits at (y ∷ ys)))
    (λ less. elim (cases_eq x.at at) [
      | inl here ↦
          let none : word_bits at (y ∷ ys) ≡ 0 =
          word_bits-before at (y ∷ ys) (
            omega (arith, here, less),
            IsBefore-trans at y.at ys
                (omega (arith, here, less)) s.1,
          ) in
          rw (none, or_zero_r (word_bits at (x ∷ xs)), eq-eqb x.at at here) refl
      | inr other ↦ rw (ne_eqb x.at at other) (word_bits-joined at xs (y ∷ ys) r.2 s)
    ])
    (λ same. elim (cases_eq x.at at) [
      | inl here ↦ rw (eq-eqb x.at at here, eq-eqb y.at at (sym same ∙ here)) refl
      | inr other ↦
          rw (ne_eqb x.at at other, ne_eqb y.at at (λ e. other (same ∙ e))) (word_bits-joined at xs ys r.2 s.2)
    ])
    (λ more. elim (cases_eq y.at at) [
      | inl here ↦
          let none : word_bits at (x ∷ xs) ≡ 0 =
          word_bits-before at (x ∷ xs) (
            omega (arith, here, more),
            IsBefore-trans at x.at xs
                (omega (arith, here, more)) r.1,
          ) in
          rw (none, or_zero_l (word_bits at (y ∷ ys)), eq-eqb y.at at here) refl
      | inr other ↦ rw (ne_eqb y.at at other) (word_bits-joined at (x ∷ xs) ys r s.2)
    ])

pub IsBefore-joined : (at : ℕ) (xs ys : List Word) → IsBefore at xs → IsBefore at ys → IsBefore at (joined xs ys)
IsBefore-joined at [] ys b c = subst (IsBefore at) (sym (joined-left_end ys)) c
IsBefore-joined at (x ∷ xs) [] b c = subst (IsBefore at) (sym (joined-right_end (x ∷ xs))) b
IsBefore-joined at (x ∷ xs) (y ∷ ys) b c =
    by_index x y xs ys (IsBefore at)
    (λ less. (b.0, IsBefore-joined at xs (y ∷ ys) b.1 c))
    (λ same. (b.0, IsBefore-joined at xs ys b.1 c.1))
    (λ more. (c.0, IsBefore-joined at (x ∷ xs) ys b c.1))

IsWord-joined : (x y : Word) → IsWord x → IsWord y → x.at ≡ y.at
    → IsWord (record { at = x.at; bits = bit_or x.bits y.bits })
IsWord-joined x y v w same = (
  let above = le_or_l x.bits y.bits in omega (arith, above, v.0),
  (
    or_lt 64 x.bits y.bits v.1.0 w.1.0,
    λ k h e. elim (Rattle.std.proofs.lemmas.Bool.or_cases _ _ (sym (has_bit-or x.bits y.bits k) ∙ e)) [
      | inl left ↦ v.1.1 k h left
      | inr right ↦ let other = w.1.1 k h right in omega (arith, same, other)
    ],
  ),
)

pub IsSparse-joined : (xs ys : List Word) → IsSparse xs → IsSparse ys → IsSparse (joined xs ys)
IsSparse-joined [] ys r s = subst IsSparse (sym (joined-left_end ys)) s
IsSparse-joined (x ∷ xs) [] r s = subst IsSparse (sym (joined-right_end (x ∷ xs))) r
IsSparse-joined (x ∷ xs) (y ∷ ys) r s =
    by_index x y xs ys IsSparse
    (λ less. (
      r.0,
      IsBefore-joined x.at xs (y ∷ ys) r.1
          (less, IsBefore-trans x.at y.at ys (omega arith) s.1),
      IsSparse-joined xs (y ∷ ys) r.2 s,
    ))
    (λ same. (
      IsWord-joined x y r.0 s.0 same,
      IsBefore-joined x.at xs ys r.1
          (IsBefore-trans x.at y.at ys (omega (arith, same)) s.1),
      IsSparse-joined xs ys r.2 s.2,
    ))
    (λ more. (
      s.0,
      IsBefore-joined y.at (x ∷ xs) ys
          (more, IsBefore-trans y.at x.at xs (omega arith) r.1) s.1,
      IsSparse-joined (x ∷ xs) ys r s.2,
    ))

-- the words without a number
abbrev pub cleared : ℕ → ℕ → ℕ
cleared n bits = bit_and bits (bit_not w64 (one_bit (n % 64)))

without_cases : (n : ℕ) (w : Word) (ws : List Word) (P : List Word → Type 0)
    → (w.at ≡ n / 64 → cleared n w.bits ≡ 0 → P ws)
    → (w.at ≡ n / 64 → (cleared n w.bits ≡ 0 → ⊥) → P (record { at = w.at; bits = cleared n w.bits } ∷ ws))
    → ((w.at ≡ n / 64 → ⊥) → P (w ∷ without n ws)) → P (without n (w ∷ ws))
unfolding without
without_cases n w ws P gone less other =
    elim (cases_eq w.at (n / 64)) [
      | inl here ↦ elim (cases_eq (cleared n w.bits) 0) [
        | inl none ↦ rw (eq-eqb w.at (n / 64) here, eq-eqb (cleared n w.bits) 0 none) (gone here none)
        | inr some ↦ rw (eq-eqb w.at (n / 64) here, ne_eqb (cleared n w.bits) 0 some) (less here some)
      ]
      | inr differs ↦ rw (ne_eqb w.at (n / 64) differs) (other differs)
    ]

pub IsBefore-without : (at n : ℕ) (ws : List Word) → IsBefore at ws → IsBefore at (without n ws)
unfolding without
IsBefore-without at n [] b = tt
IsBefore-without at n (w ∷ ws) b =
    without_cases n w ws (IsBefore at) (λ _ _. b.1) (λ _ _. (b.0, b.1)) (λ _. (b.0, IsBefore-without at n ws b.1))

pub word_bits-without : (at n : ℕ) (ws : List Word) → IsSparse ws
    → word_bits at (without n ws) ≡ cond (eqb (n / 64) at) (cleared n (word_bits at ws)) (word_bits at ws)
unfolding without
word_bits-without at n [] s =
    elim (eqb (n / 64) at) as (λ b. 0 ≡ cond b (cleared n 0) 0)
    [ true ↦ sym (and_zero_l (bit_not w64 (one_bit (n % 64)))) | false ↦ refl ]
word_bits-without at n (w ∷ ws) s =
    without_cases n w ws (λ zs. word_bits at zs ≡ cond (eqb (n / 64) at) (cleared n (word_bits at (w ∷ ws)))
    (word_bits at (w ∷ ws)))
    (λ here none. elim (cases_eq w.at at) [
      | inl is ↦
          rw (eq-eqb w.at at is, eq-eqb (n / 64) at (sym here ∙ is))
          (word_bits-before at ws (IsBefore-trans at w.at ws (omega (arith, is)) s.1) ∙ sym none)
      | inr not_is ↦ rw (ne_eqb w.at at not_is, ne_eqb (n / 64) at (λ e. not_is (here ∙ e))) refl
    ])
    (λ here some. elim (cases_eq w.at at) [
      | inl is ↦ rw (eq-eqb w.at at is, eq-eqb (n / 64) at (sym here ∙ is)) refl
      | inr not_is ↦ rw (ne_eqb w.at at not_is, ne_eqb (n / 64) at (λ e. not_is (here ∙ e))) refl
    ])
    (λ differs. elim (cases_eq w.at at) [
      | inl is ↦ rw (eq-eqb w.at at is, ne_eqb (n / 64) at (λ e. differs (is ∙ sym e))) refl
      | inr not_is ↦ rw (ne_eqb w.at at not_is) (word_bits-without at n ws s.2)
    ])

pub IsBounded-cleared : (n : ℕ) (w : Word) → IsBounded w → IsBounded (record { at = w.at; bits = cleared n w.bits })
IsBounded-cleared n w s = (
  and_not-lt w.bits (bit_not w64 (one_bit (n % 64))) s.0,
  λ k h e. s.1 k h (Rattle.std.proofs.lemmas.Bool.and_parts _ _
      (sym (has_bit-cleared w.bits (n % 64) k (omega arith) h) ∙ e)).0,
)

IsWord-cleared : (n : ℕ) (w : Word) → IsWord w → (cleared n w.bits ≡ 0 → ⊥)
    → IsWord (record { at = w.at; bits = cleared n w.bits })
IsWord-cleared n w s some = (
  elim (cases_lt 0 (cleared n w.bits)) [ inl more ↦ more | inr none ↦ absurd (some (omega (arith, none))) ],
  IsBounded-cleared n w s.1,
)

pub IsSparse-without : (n : ℕ) (ws : List Word) → IsSparse ws → IsSparse (without n ws)
unfolding without
IsSparse-without n [] s = tt
IsSparse-without n (w ∷ ws) s =
    without_cases n w ws IsSparse
    (λ _ _. s.2)
    (λ _ some. (IsWord-cleared n w s.0 some, s.1, s.2))
    (λ _. (s.0, IsBefore-without w.at n ws s.1, IsSparse-without n ws s.2))

-- the same, at an index that is the place
pub word_bits-at : (at : ℕ) (ws : List Word) (i : ℕ) (d : Word) → i ≡ place at ws → i < length ws
    → (get_or ws i d).at ≡ at → (get_or ws i d).bits ≡ word_bits at ws
word_bits-at at ws i d is h e = rw is (word_bits-at_place at ws d (rw is at h) (rw is at e))

pub word_bits-not_at : (at : ℕ) (ws : List Word) (i : ℕ) (d : Word) → IsSparse ws → i ≡ place at ws
    → ((get_or ws i d).at ≡ at → ⊥) → word_bits at ws ≡ 0
word_bits-not_at at ws i d s is n = word_bits-not_at_place at ws d s (λ h e. (rw is at n) e)

pub word_bits-past : (at : ℕ) (ws : List Word) (i : ℕ) → IsSparse ws → i ≡ place at ws → length ws ≤ i
    → word_bits at ws ≡ 0
word_bits-past at ws i s is past =
    word_bits-not_at_place at ws (record { at = 0; bits = 0 }) s (λ h e. omega (arith, h, is, past))
