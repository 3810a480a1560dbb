-- The elements of a list from an index on.
use Rattle.std.proofs.Common.{◌≡◌, ℕ, zero, suc, ◌+◌, List, [], ◌∷◌, drop, Option, Some, None, refl, ap, sym, ◌∙◌, add-one}
use Rattle.std.specs.Prelude.{slice_get, MatchOption}

none_left : {A : Type 0} (xs : List A) (i : ℕ) → None ≡ slice_get xs i → drop i xs ≡ []
none_left [] zero h = refl
none_left [] (suc i) h = refl
none_left (x ∷ xs) zero h = cc
none_left (x ∷ xs) (suc i) h = none_left xs i h

more_left : {A : Type 0} (xs : List A) (i : ℕ) (a : A) → Some a ≡ slice_get xs i → drop i xs ≡ a ∷ drop (suc i) xs
more_left [] zero a h = cc
more_left [] (suc i) a h = cc
more_left (x ∷ xs) zero a h = let same : a ≡ x = cc in ap (λ y. y ∷ xs) (sym same)
more_left (x ∷ xs) (suc i) a h = more_left xs i a h

pub drop_past : {A : Type 0} (xs : List A) (i : ℕ) → None ≡ slice_get xs i → drop i xs ≡ []
drop_past xs i h = none_left xs i h

pub drop_at : {A : Type 0} (xs : List A) (i next : ℕ) (a : A) → Some a ≡ slice_get xs i → next ≡ i + 1 → drop i xs ≡ a ∷ drop next xs
drop_at xs i next a h e = more_left xs i a h ∙ ap (λ n. a ∷ drop n xs) (sym (add-one i) ∙ sym e)

pub element_left : {A : Type 0} (xs : List A) (i : ℕ) (o : Option A) → o ≡ slice_get xs i → MatchOption o (drop i xs ≡ []) (λ a. drop i xs ≡ a ∷ drop (i + 1) xs)
element_left xs i None h = drop_past xs i h
element_left xs i (Some a) h = drop_at xs i (i + 1) a h refl
