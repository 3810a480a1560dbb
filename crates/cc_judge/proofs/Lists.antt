-- Lists: the step of a loop over one, its elements by places, and tests of them.
use Rattle.std.proofs.Common.{◌≡◌, ℕ, ◌+◌, ◌<◌, Bool, ◌&&◌, List, [], ◌∷◌, ◌++◌, length, get_or, map}
use Rattle.std.proofs.Common.{take, drop, Some, None, ap, ◌∙◌, sym, inl, inr}
use Rattle.std.proofs.lemmas.List.{map_more, drop_more}
use Rattle.std.proofs.lemmas.Option.{slice_get_cases, slice_get-get_or, same_Some}
use Rattle.std.specs.Cmp.Lexicographic.{pointwise}
use Rattle.std.specs.List.{slice_get}

-- what is left of a list from a place on begins with what stands there
pub drop_read : {X : Type 0} (xs : List X) (i : ℕ) (x : X) → i < length xs → x ≡ get_or xs i x
    → drop i xs ≡ x ∷ drop (i + 1) xs
drop_read xs i x within is = drop_more xs i x within ∙ ap (λ y. y ∷ drop (i + 1) xs) (sym is)

-- one more of a list that is collected
pub listed_more : {A C : Type 0} (f : A → C) (xs : List A) (ys new : List C) (i : ℕ) (x : A) (y : C) → i < length xs
    → x ≡ get_or xs i x → ys ≡ map f (take i xs) → y ≡ f x → new ≡ ys ++ y ∷ [] → new ≡ map f (take (i + 1) xs)
listed_more f xs ys new i x y within is so_far one more =
    more ∙ ap (λ zs. zs ++ y ∷ []) so_far ∙ ap (λ z. map f (take i xs) ++ z ∷ []) one
    ∙ ap (λ z. map f (take i xs) ++ f z ∷ []) is ∙ sym (map_more f xs i x within)

-- two lists by pairs, from a place on
pub pairs_from : {A B : Type 0} (f : A → B) (test : B → B → Bool) (xs ys : List A) (i : ℕ) (x y : A) → i < length xs
    → i < length ys → x ≡ get_or xs i x → y ≡ get_or ys i y
    → pointwise test (map f (drop i xs)) (map f (drop i ys))
    ≡ (test (f x) (f y) && pointwise test (map f (drop (i + 1) xs)) (map f (drop (i + 1) ys)))
pairs_from f test xs ys i x y in_xs in_ys is_x is_y =
    ap (λ zs. pointwise test (map f zs) (map f (drop i ys))) (drop_read xs i x in_xs is_x)
    ∙ ap (λ zs. pointwise test (f x ∷ map f (drop (i + 1) xs)) (map f zs)) (drop_read ys i y in_ys is_y)

-- what stands at a place
pub read_at : {X : Type 0} (xs : List X) (i : ℕ) (x d : X) → slice_get xs i ≡ Some x → get_or xs i d ≡ x
read_at xs i x d is =
    elim (slice_get_cases xs i).1 [
      | inl (y, within, found, same) ↦ same_Some (get_or xs i d) x (sym (slice_get-get_or xs i d within) ∙ is)
      | inr (past, none) ↦ absurd (let clash : None ≡ Some x = sym none ∙ is in cc)
    ]
