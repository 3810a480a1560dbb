-- The steps of loops over lists.
use Rattle.std.proofs.Common.{◌≡◌, ℕ, ◌+◌, ◌<◌, Bool, List, [], ◌∷◌, ◌++◌, length, get_or, map, take, refl, ap, ◌∙◌, sym}
use Rattle.std.proofs.Common.{arith, if◌then◌else◌}
use Rattle.std.proofs.lemmas.List.{map_push, map_more}
use Rattle.std.proofs.lemmas.List.Elements.{filter-append}
use Rattle.std.proofs.lemmas.List.FromFn.{map-range_with_len_more}
use Rattle.std.specs.List.{filter, range_with_len}

-- one more of a list that is copied, or of what it stands for
pub copied_more : {A B C : Type 0} (f : A → C) (g : B → C) (xs : List A) (ys new : List B) (i : ℕ) (x : A) (y : B)
    → i < length xs → x ≡ get_or xs i x → map g ys ≡ map f (take i xs) → g y ≡ f x → new ≡ ys ++ y ∷ []
    → map g new ≡ map f (take (i + 1) xs)
copied_more f g xs ys new i x y within is so_far one more =
    ap (map g) more ∙ map_push g ys y ∙ ap (λ zs. zs ++ g y ∷ []) so_far ∙ ap (λ z. map f (take i xs) ++ z ∷ []) one
    ∙ ap (λ z. map f (take i xs) ++ f z ∷ []) is ∙ sym (map_more f xs i x within)

-- one more of a list that is collected
pub listed_more : {A C : Type 0} (f : A → C) (xs : List A) (ys new : List C) (i : ℕ) (x : A) (y : C) → i < length xs
    → x ≡ get_or xs i x → ys ≡ map f (take i xs) → y ≡ f x → new ≡ ys ++ y ∷ [] → new ≡ map f (take (i + 1) xs)
listed_more f xs ys new i x y within is so_far one more =
    more ∙ ap (λ zs. zs ++ y ∷ []) so_far ∙ ap (λ z. map f (take i xs) ++ z ∷ []) one
    ∙ ap (λ z. map f (take i xs) ++ f z ∷ []) is ∙ sym (map_more f xs i x within)

map_itself : (xs : List ℕ) → map (λ x. x) xs ≡ xs
map_itself [] = refl
map_itself (x ∷ xs) = ap (λ ys. x ∷ ys) (map_itself xs)

-- the numbers below one more
pub range_more : (n : ℕ) → range_with_len 0 (n + 1) ≡ range_with_len 0 n ++ n ∷ []
range_more n =
    sym (map_itself (range_with_len 0 (n + 1))) ∙ map-range_with_len_more (λ x. x) 0 n n (omega arith)
    ∙ ap (λ xs. xs ++ n ∷ []) (map_itself (range_with_len 0 n))

-- one more number that is tested
pub chosen_more : (p : ℕ → Bool) (old new : List ℕ) (n : ℕ) → old ≡ filter p (range_with_len 0 n)
    → new ≡ old ++ (if p n then n ∷ [] else []) → new ≡ filter p (range_with_len 0 (n + 1))
chosen_more p old new n so_far more =
    more ∙ ap (λ xs. xs ++ (if p n then n ∷ [] else [])) so_far
    ∙ sym (ap (filter p) (range_more n) ∙ filter-append p (range_with_len 0 n) (n ∷ []))
