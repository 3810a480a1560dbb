-- What stands at a position of a list is what stands at an index, counted from the newest.
use Rattle.std.proofs.Common.{◌≡◌, ℕ, suc, ◌-◌, ◌<◌, ◌≤◌, List, [], ◌∷◌, length, map, Option, Some, None, option_map, inl, inr, refl, sym, ap, ◌∙◌, arith}
use Rattle.std.specs.List.{slice_get}
use Rattle.std.proofs.lemmas.Bool.{cases_eq}
use Rattle.cc_core.specs.Contexts.{lookup}
use Rattle.cc_core.proofs.Lookups.{lookup-newest, lookup-other, lookup-map}

pub lookup-past : {A : Type 0} (xs : List A) (p : ℕ) → length xs ≤ p → lookup xs p ≡ None
lookup-past [] p h = refl
lookup-past (x ∷ xs) p h = lookup-other x xs p (λ e. omega arith) ∙ lookup-past xs p (omega arith)

pub lookup-index : {A : Type 0} (xs : List A) (p : ℕ) → p < length xs → lookup xs p ≡ slice_get xs (length xs - 1 - p)
lookup-index [] p h = absurd (omega arith)
lookup-index (x ∷ xs) p h =
    elim (cases_eq p (length xs)) as (λ _. lookup (x ∷ xs) p ≡ slice_get (x ∷ xs) (length (x ∷ xs) - 1 - p)) [
      | inl same ↦
          let first : suc (length xs) - 1 - p ≡ 0 = omega arith in
          ap (lookup (x ∷ xs)) same ∙ lookup-newest x xs ∙ sym (ap (slice_get (x ∷ xs)) first)
      | inr other ↦
          let below : p < length xs = omega (arith, other) in
          let older : suc (length xs) - 1 - p ≡ suc (length xs - 1 - p) = omega arith in
          lookup-other x xs p other ∙ lookup-index xs p below ∙ sym (ap (slice_get (x ∷ xs)) older)
    ]

-- an option seen through two functions in a row
pub option_map-twice : {A B C : Type 0} (f : B → C) (g : A → B) (o : Option A) → option_map (λ x. f (g x)) o ≡ option_map f (option_map g o)
option_map-twice f g None = refl
option_map-twice f g (Some x) = refl

-- past the entries nothing is found
pub found-past : {A B : Type 0} (f : A → B) (linked xs : List A) (len p : ℕ) → len ≡ length linked → linked ≡ xs → len ≤ p
    → None ≡ lookup (map f xs) p
found-past f linked xs len p count same past =
    let all : length xs ≤ p = omega (arith, ap length same) in
    sym (lookup-map f xs p ∙ ap (option_map f) (lookup-past xs p all))

-- what is found at an index stands at the position
pub found-at : {A B C : Type 0} (f : A → B) (g : C → A) (found : Option C) (linked xs : List A) (len p : ℕ) → len ≡ length linked
    → linked ≡ xs → p < len → option_map g found ≡ slice_get linked (len - 1 - p)
    → option_map (λ x. f (g x)) found ≡ lookup (map f xs) p
found-at f g found linked xs len p count same below is =
    let within : p < length xs = omega (arith, ap length same) in
    let index : len - 1 - p ≡ length xs - 1 - p = omega (arith, ap length same) in
    option_map-twice f g found
    ∙ ap (option_map f) (is ∙ ap (slice_get linked) index ∙ ap (λ l. slice_get l (length xs - 1 - p)) same ∙ sym (lookup-index xs p within))
    ∙ sym (lookup-map f xs p)
