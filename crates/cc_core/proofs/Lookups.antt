-- Looking up positions and indices.
use Rattle.std.proofs.Common.{◌≡◌, ◌⊎◌, ℕ, zero, suc, ◌<◌, List, [], ◌∷◌, ◌++◌, map, length, Some, inl, inr, refl, sym, ap, ◌∙◌, arith}
use Rattle.std.specs.Option.{option_map}
use Rattle.std.specs.List.{slice_get}
use Rattle.std.proofs.lemmas.Bool.{cases_eq, cond-true, cond-false, eq-eqb, ne_eqb}
use Rattle.std.specs.Prelude.{nat_eq}
use Rattle.cc_core.specs.Contexts.{lookup}

pub length_map : {A B : Type 0} (f : A → B) (xs : List A) → length (map f xs) ≡ length xs
length_map f [] = refl
length_map f (x ∷ xs) = ap suc (length_map f xs)

pub lookup-newest : {A : Type 0} (x : A) (xs : List A) → lookup (x ∷ xs) (length xs) ≡ Some x
lookup-newest x xs =
    cond-true (nat_eq (length xs) (length xs)) (Some x) (lookup xs (length xs)) (eq-eqb (length xs) (length xs) refl)

pub lookup-other : {A : Type 0} (x : A) (xs : List A) (p : ℕ) → (p ≡ length xs → ⊥) → lookup (x ∷ xs) p ≡ lookup xs p
lookup-other x xs p ne = cond-false (nat_eq p (length xs)) (Some x) (lookup xs p) (ne_eqb p (length xs) ne)

-- what is found stands at a position below the length
pub lookup-below : {A : Type 0} (xs : List A) (p : ℕ) (a : A) → lookup xs p ≡ Some a → p < length xs
lookup-below [] p a e = cc
lookup-below (x ∷ xs) p a e =
    elim (cases_eq p (length xs)) as (λ _. p < suc (length xs)) [
      | inl same ↦ omega arith
      | inr other ↦ let below : p < length xs = lookup-below xs p a (sym (lookup-other x xs p other) ∙ e) in omega arith
    ]

-- it stays where it is when entries are added
pub lookup-older : {A : Type 0} (x : A) (xs : List A) (p : ℕ) (a : A) → lookup xs p ≡ Some a
    → lookup (x ∷ xs) p ≡ Some a
lookup-older x xs p a e = let below : p < length xs = lookup-below xs p a e in lookup-other x xs p (λ same. omega arith) ∙ e

pub lookup-more : {A : Type 0} (more xs : List A) (p : ℕ) (a : A) → lookup xs p ≡ Some a
    → lookup (more ++ xs) p ≡ Some a
lookup-more [] xs p a e = e
lookup-more (x ∷ more) xs p a e = lookup-older x (more ++ xs) p a (lookup-more more xs p a e)

-- what is found after one entry was added is that entry, or was found before
pub lookup-cases : {A : Type 0} (x : A) (xs : List A) (p : ℕ) (a : A) → lookup (x ∷ xs) p ≡ Some a
    → ((p ≡ length xs) × (x ≡ a)) ⊎ (lookup xs p ≡ Some a)
lookup-cases x xs p a e =
    elim (cases_eq p (length xs)) as (λ _. ((p ≡ length xs) × (x ≡ a)) ⊎ (lookup xs p ≡ Some a)) [
      | inl same ↦ inl (same, some_same (sym (lookup-newest x xs) ∙ sym (ap (lookup (x ∷ xs)) same) ∙ e))
      | inr other ↦ inr (sym (lookup-other x xs p other) ∙ e)
    ]
  where
    some_same : Some x ≡ Some a → x ≡ a
    some_same q = cc

pub lookup-map : {A B : Type 0} (f : A → B) (xs : List A) (p : ℕ) → lookup (map f xs) p ≡ option_map f (lookup xs p)
lookup-map f [] p = refl
lookup-map f (x ∷ xs) p =
    elim (cases_eq p (length xs)) as (λ _. lookup (map f (x ∷ xs)) p ≡ option_map f (lookup (x ∷ xs) p)) [
      | inl same ↦
          ap (lookup (f x ∷ map f xs)) (same ∙ sym (length_map f xs)) ∙ lookup-newest (f x) (map f xs)
          ∙ sym (ap (λ q. option_map f (lookup (x ∷ xs) q)) same ∙ ap (option_map f) (lookup-newest x xs))
      | inr other ↦
          lookup-other (f x) (map f xs) p (λ e. other (e ∙ length_map f xs)) ∙ lookup-map f xs p
          ∙ sym (ap (option_map f) (lookup-other x xs p other))
    ]

-- a position below the length has an entry
pub lookup-within : {A : Type 0} (xs : List A) (p : ℕ) → p < length xs → (a : A) × (lookup xs p ≡ Some a)
lookup-within [] p h = absurd (omega arith)
lookup-within (x ∷ xs) p h =
    elim (cases_eq p (length xs)) as (λ _. (a : _) × (lookup (x ∷ xs) p ≡ Some a)) [
      | inl same ↦ (x, ap (lookup (x ∷ xs)) same ∙ lookup-newest x xs)
      | inr other ↦
          let below : p < length xs = omega arith in
          let found = lookup-within xs p below in
          (found.0, lookup-other x xs p other ∙ found.1)
    ]

-- indices
pub slice_get-append : {A : Type 0} (xs ys : List A) (i : ℕ) (a : A) → slice_get xs i ≡ Some a
    → slice_get (xs ++ ys) i ≡ Some a
slice_get-append [] ys i a e = cc
slice_get-append (x ∷ xs) ys zero a e = e
slice_get-append (x ∷ xs) ys (suc i) a e = slice_get-append xs ys i a e

pub slice_get-within : {A : Type 0} (xs : List A) (i : ℕ) (a : A) → slice_get xs i ≡ Some a → i < length xs
slice_get-within [] i a e = cc
slice_get-within (x ∷ xs) zero a e = omega arith
slice_get-within (x ∷ xs) (suc i) a e = let below : i < length xs = slice_get-within xs i a e in omega arith

pub slice_get-last : {A : Type 0} (xs : List A) (a : A) → slice_get (xs ++ a ∷ []) (length xs) ≡ Some a
slice_get-last [] a = refl
slice_get-last (x ∷ xs) a = slice_get-last xs a

pub slice_get-not_last : {A : Type 0} (xs : List A) (b : A) (i : ℕ) (a : A) → slice_get (xs ++ b ∷ []) i ≡ Some a
    → (i ≡ length xs → ⊥) → slice_get (xs ++ []) i ≡ Some a
slice_get-not_last [] b zero a e ne = absurd (ne refl)
slice_get-not_last [] b (suc i) a e ne = cc
slice_get-not_last (x ∷ xs) b zero a e ne = e
slice_get-not_last (x ∷ xs) b (suc i) a e ne = slice_get-not_last xs b i a e (λ same. ne (ap suc same))

-- an index of a list and nothing is one of the list, and of the list and more
pub slice_get-beyond : {A : Type 0} (xs ys : List A) (i : ℕ) (a : A) → slice_get (xs ++ []) i ≡ Some a
    → slice_get (xs ++ ys) i ≡ Some a
slice_get-beyond [] ys i a e = cc
slice_get-beyond (x ∷ xs) ys zero a e = e
slice_get-beyond (x ∷ xs) ys (suc i) a e = slice_get-beyond xs ys i a e
