-- What is done at the place of a word: bits set or cleared there, a word put there or taken out.
use Rattle.std.proofs.Common.{◌≡◌, ℕ, zero, suc, ◌/◌, ◌<◌, ◌≤◌, List, [], ◌∷◌, length, get_or, set, inl, inr, refl}
use Rattle.std.proofs.Common.{◌++◌, true, sym, ap, ◌∙◌, arith}
use Rattle.std.specs.Prelude.{bit_or, nat_eq}
use Rattle.std.specs.List as edits
use Rattle.std.proofs.lemmas.Nat.{or_comm}
use Rattle.std.proofs.lemmas.List.Edits.{insert_end}
use Rattle.std.proofs.lemmas.Bool.{lt-ltb, le-ltb, eq-eqb, ne_eqb, eqb-true, cases_lt, cases_order}
use Rattle.cc_capture.specs.declared.words.Word.{Word}
use Rattle.cc_capture.specs.Words.{IsBefore, IsSparse, place, joined, without}
use Rattle.cc_capture.proofs.SparseWords.{IsBefore-trans, place-le-length, joined-left_end, joined-right_end, joined-less}
use Rattle.cc_capture.proofs.SparseWords.{joined-equal, joined-greater, cleared}

-- a word joined with the one that has its index
pub joined-at_place : (w : Word) (ys : List Word) (d : Word) → place w.at ys < length ys
    → (get_or ys (place w.at ys) d).at ≡ w.at
    → set ys (place w.at ys)
    (record { at = (get_or ys (place w.at ys) d).at; bits = bit_or (get_or ys (place w.at ys) d).bits w.bits })
    ≡ joined (w ∷ []) ys
joined-at_place w [] d h e = absurd (omega arith)
joined-at_place w (y ∷ ys) d h e =
    elim (cases_lt y.at w.at) [
      | inl less ↦
          let rest =
          joined-at_place w ys d (let h' = (rw (lt-ltb y.at w.at less) at h) in omega (arith, h'))
          (rw (lt-ltb y.at w.at less) at e) in
          rw (lt-ltb y.at w.at less) (ap (λ zs. y ∷ zs) rest ∙ sym (joined-greater w y [] ys less))
      | inr past ↦
          let same : y.at ≡ w.at = (rw (le-ltb y.at w.at past) at e) in
          rw (le-ltb y.at w.at past)
          ((λ i. record { at = same i; bits = or_comm y.bits w.bits i } ∷ ys)
          ∙ ap (λ zs. record { at = w.at; bits = bit_or w.bits y.bits } ∷ zs) (sym (joined-left_end ys))
          ∙ sym (joined-equal w y [] ys (sym same)))
    ]

-- a word whose index no word has
pub joined-not_at_place : (w : Word) (ys : List Word) (d : Word)
    → (place w.at ys < length ys → (get_or ys (place w.at ys) d).at ≡ w.at → ⊥)
    → edits.insert ys (place w.at ys) w ≡ joined (w ∷ []) ys
joined-not_at_place w [] d n = sym (joined-right_end (w ∷ []))
joined-not_at_place w (y ∷ ys) d n =
    elim (cases_order y.at w.at) [
      | inl same ↦ absurd ((rw (le-ltb y.at w.at (omega (arith, same))) at n) (omega arith) same)
      | inr other ↦ elim other [
        | inl less ↦
            let rest = joined-not_at_place w ys d (λ h e. (rw (lt-ltb y.at w.at less) at n) (omega (arith, h)) e) in
            rw (lt-ltb y.at w.at less) (ap (λ zs. y ∷ zs) rest ∙ sym (joined-greater w y [] ys less))
        | inr more ↦
            rw (le-ltb y.at w.at (omega (arith, more)))
            (sym (joined-less w y [] ys more ∙ ap (λ zs. w ∷ zs) (joined-left_end (y ∷ ys))))
      ]
    ]

-- the words without a number: whose word has no other, or has another, or is not there
pub without-emptied : (n : ℕ) (ys : List Word) (d : Word) → place (n / 64) ys < length ys
    → (get_or ys (place (n / 64) ys) d).at ≡ n / 64 → cleared n (get_or ys (place (n / 64) ys) d).bits ≡ 0
    → edits.remove ys (place (n / 64) ys) ≡ without n ys
unfolding without
without-emptied n [] d h e none = absurd (omega arith)
without-emptied n (y ∷ ys) d h e none =
    elim (cases_lt y.at (n / 64)) [
      | inl less ↦
          let rest =
          without-emptied n ys d (let h' = (rw (lt-ltb y.at (n / 64) less) at h) in omega (arith, h'))
          (rw (lt-ltb y.at (n / 64) less) at e) (rw (lt-ltb y.at (n / 64) less) at none) in
          rw (lt-ltb y.at (n / 64) less, ne_eqb y.at (n / 64) (λ same. omega (arith, same, less)))
          (ap (λ zs. y ∷ zs) rest)
      | inr past ↦
          let same : y.at ≡ n / 64 = (rw (le-ltb y.at (n / 64) past) at e) in
          let none' : cleared n y.bits ≡ 0 = (rw (le-ltb y.at (n / 64) past) at none) in
          rw (le-ltb y.at (n / 64) past, eq-eqb y.at (n / 64) same, eq-eqb (cleared n y.bits) 0 none') refl
    ]

pub without-cleared : (n : ℕ) (ys : List Word) (d : Word) → place (n / 64) ys < length ys
    → (get_or ys (place (n / 64) ys) d).at ≡ n / 64 → (cleared n (get_or ys (place (n / 64) ys) d).bits ≡ 0 → ⊥)
    → set ys (place (n / 64) ys)
    (record { at = (get_or ys (place (n / 64) ys) d).at; bits = cleared n (get_or ys (place (n / 64) ys) d).bits })
    ≡ without n ys
unfolding without
without-cleared n [] d h e some = absurd (omega arith)
without-cleared n (y ∷ ys) d h e some =
    elim (cases_lt y.at (n / 64)) [
      | inl less ↦
          let rest =
          without-cleared n ys d (let h' = (rw (lt-ltb y.at (n / 64) less) at h) in omega (arith, h'))
          (rw (lt-ltb y.at (n / 64) less) at e) (rw (lt-ltb y.at (n / 64) less) at some) in
          rw (lt-ltb y.at (n / 64) less, ne_eqb y.at (n / 64) (λ same. omega (arith, same, less)))
          (ap (λ zs. y ∷ zs) rest)
      | inr past ↦
          let same : y.at ≡ n / 64 = (rw (le-ltb y.at (n / 64) past) at e) in
          let some' : cleared n y.bits ≡ 0 → ⊥ = (rw (le-ltb y.at (n / 64) past) at some) in
          rw (le-ltb y.at (n / 64) past, eq-eqb y.at (n / 64) same, ne_eqb (cleared n y.bits) 0 some') refl
    ]

without-before : (n : ℕ) (ys : List Word) → IsBefore (n / 64) ys → ys ≡ without n ys
unfolding without
without-before n [] b = refl
without-before n (y ∷ ys) b =
    rw (ne_eqb y.at (n / 64) (λ same. omega (arith, same, b.0))) (ap (λ zs. y ∷ zs) (without-before n ys b.1))

pub without-absent : (n : ℕ) (ys : List Word) (d : Word) → IsSparse ys
    → (place (n / 64) ys < length ys → (get_or ys (place (n / 64) ys) d).at ≡ n / 64 → ⊥) → ys ≡ without n ys
unfolding without
without-absent n [] d s n' = refl
without-absent n (y ∷ ys) d s not =
    elim (cases_order y.at (n / 64)) [
      | inl same ↦ absurd ((rw (le-ltb y.at (n / 64) (omega (arith, same))) at not) (omega arith) same)
      | inr other ↦ elim other [
        | inl less ↦
            let rest =
            without-absent n ys d s.2 (λ h e. (rw (lt-ltb y.at (n / 64) less) at not) (omega (arith, h)) e) in
            rw (ne_eqb y.at (n / 64) (λ same. omega (arith, same, less))) (ap (λ zs. y ∷ zs) rest)
        | inr more ↦ without-before n (y ∷ ys) (more, IsBefore-trans (n / 64) y.at ys (omega (arith, more)) s.1)
      ]
    ]

-- the same, at an index that is the place, where d is the word there
pub joined-at : (w : Word) (ys : List Word) (i : ℕ) (d : Word) → i ≡ place w.at ys → i < length ys → d ≡ get_or ys i d
    → d.at ≡ w.at → set ys i (record { at = d.at; bits = bit_or d.bits w.bits }) ≡ joined (w ∷ []) ys
joined-at w ys i d is h there e =
    let there' : d ≡ get_or ys (place w.at ys) d = (rw is at there) in
    ap (λ k. set ys k (record { at = d.at; bits = bit_or d.bits w.bits })) is
    ∙ ap (λ x. set ys (place w.at ys) (record { at = x.at; bits = bit_or x.bits w.bits })) there'
    ∙ joined-at_place w ys d (rw is at h) (sym (ap (λ x. x.at) there') ∙ e)

pub joined-not_at : (w : Word) (ys : List Word) (i : ℕ) (d : Word) → i ≡ place w.at ys → d ≡ get_or ys i d
    → (d.at ≡ w.at → ⊥) → edits.insert ys i w ≡ joined (w ∷ []) ys
joined-not_at w ys i d is there n =
    let there' : d ≡ get_or ys (place w.at ys) d = (rw is at there) in
    rw is (joined-not_at_place w ys d (λ h e. n (ap (λ x. x.at) there' ∙ e)))

pub joined-past : (w : Word) (ys : List Word) (i : ℕ) → i ≡ place w.at ys → length ys ≤ i
    → edits.insert ys i w ≡ joined (w ∷ []) ys
joined-past w ys i is past = rw is (joined-not_at_place w ys w (λ h e. omega (arith, h, is, past)))

pub without-at_emptied : (n : ℕ) (ys : List Word) (i : ℕ) (d : Word) → i ≡ place (n / 64) ys → i < length ys
    → d ≡ get_or ys i d → d.at ≡ n / 64 → cleared n d.bits ≡ 0 → edits.remove ys i ≡ without n ys
without-at_emptied n ys i d is h there e none =
    let there' : d ≡ get_or ys (place (n / 64) ys) d = (rw is at there) in
    rw is (without-emptied n ys d (rw is at h) (sym (ap (λ x. x.at) there') ∙ e)
    (ap (λ x. cleared n x.bits) (sym there') ∙ none))

pub without-at_cleared : (n : ℕ) (ys : List Word) (i : ℕ) (d : Word) → i ≡ place (n / 64) ys → i < length ys
    → d ≡ get_or ys i d → d.at ≡ n / 64 → (cleared n d.bits ≡ 0 → ⊥)
    → set ys i (record { at = d.at; bits = cleared n d.bits }) ≡ without n ys
without-at_cleared n ys i d is h there e some =
    let there' : d ≡ get_or ys (place (n / 64) ys) d = (rw is at there) in
    ap (λ k. set ys k (record { at = d.at; bits = cleared n d.bits })) is
    ∙ ap (λ x. set ys (place (n / 64) ys) (record { at = x.at; bits = cleared n x.bits })) there'
    ∙ without-cleared n ys d (rw is at h) (sym (ap (λ x. x.at) there') ∙ e)
    (λ none. some (ap (λ x. cleared n x.bits) there' ∙ none))

pub without-not_at : (n : ℕ) (ys : List Word) (i : ℕ) (d : Word) → IsSparse ys → i ≡ place (n / 64) ys
    → d ≡ get_or ys i d → (d.at ≡ n / 64 → ⊥) → ys ≡ without n ys
without-not_at n ys i d s is there not =
    let there' : d ≡ get_or ys (place (n / 64) ys) d = (rw is at there) in
    without-absent n ys d s (λ h e. not (ap (λ x. x.at) there' ∙ e))

pub without-past : (n : ℕ) (ys : List Word) (i : ℕ) → IsSparse ys → i ≡ place (n / 64) ys → length ys ≤ i
    → ys ≡ without n ys
without-past n ys i s is past = without-absent n ys (record { at = 0; bits = 0 }) s (λ h e. omega (arith, h, is, past))

-- what is read twice at one index is one word
get_or_any : (ys : List Word) (i : ℕ) (d e : Word) → i < length ys → get_or ys i d ≡ get_or ys i e
get_or_any [] i d e h = absurd (omega arith)
get_or_any (y ∷ ys) zero d e h = refl
get_or_any (y ∷ ys) (suc i) d e h = get_or_any ys i d e (omega arith)

pub one_word : (ys : List Word) (i : ℕ) (d e : Word) → i < length ys → d ≡ get_or ys i d → e ≡ get_or ys i e → d ≡ e
one_word ys i d e h p q = p ∙ get_or_any ys i d e h ∙ sym q

-- a word past the last one stands at the end
pub joined-pushed : (w : Word) (ys : List Word) → length ys ≤ place w.at ys → ys ++ w ∷ [] ≡ joined (w ∷ []) ys
joined-pushed w ys past =
    let at : place w.at ys ≡ length ys = omega (arith, past, place-le-length w.at ys) in
    sym (insert_end ys w) ∙ ap (λ i. edits.insert ys i w) (sym at) ∙ joined-past w ys (place w.at ys) refl past

pub joined-nothing_left : (xs ys : List Word) → nat_eq (length xs) 0 ≡ true → ys ≡ joined xs ys
joined-nothing_left [] ys h = sym (joined-left_end ys)
joined-nothing_left (x ∷ xs) ys h =
    let e : length (x ∷ xs) ≡ 0 = eqb-true (length (x ∷ xs)) 0 h in absurd (omega arith)

pub joined-nothing_right : (xs ys : List Word) → nat_eq (length ys) 0 ≡ true → xs ≡ joined xs ys
joined-nothing_right xs [] h = sym (joined-right_end xs)
joined-nothing_right xs (y ∷ ys) h =
    let e : length (y ∷ ys) ≡ 0 = eqb-true (length (y ∷ ys)) 0 h in absurd (omega arith)
