-- What is made of a list that a function makes of another.
use Rattle.std.proofs.Common.{◌≡◌, ℕ, ◌≤◌, Bool, ◌||◌, List, [], ◌∷◌, map, length, take, flat_map, refl, sym, ap, ◌∙◌}
use Rattle.std.proofs.lemmas.List.{take_all}
use Rattle.std.proofs.lemmas.List.Folds.{flat_map-map}
use Rattle.std.specs.List.{list_any}

pub any_mapped : {A B : Type 0} (test : B → Bool) (f : A → B) (xs : List A)
    → list_any (λ x. test (f x)) xs ≡ list_any test (map f xs)
any_mapped test f [] = refl
any_mapped test f (x ∷ xs) = ap (λ b. test (f x) || b) (any_mapped test f xs)

-- the pieces of all elements, where the whole list was gone over
pub flat_mapped : {A B C : Type 0} (f : B → List C) (g : A → B) (xs : List A) (n : ℕ) → length xs ≤ n
    → flat_map (λ x. f (g x)) (take n xs) ≡ flat_map f (map g xs)
flat_mapped f g xs n whole = ap (flat_map (λ x. f (g x))) (take_all n xs whole) ∙ sym (flat_map-map f g xs)
