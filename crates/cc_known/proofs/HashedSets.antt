-- What is hashed of a set, member by member.
use Rattle.std.proofs.Common.{◌≡◌, List, [], ◌∷◌, ◌++◌, map, refl, sym, ap, ◌∙◌, append-nil}
use Rattle.std.specs.Prelude.{fold}
use Rattle.std.specs.List.{flat_map}
use Rattle.std.proofs.lemmas.List.{map-id}

fold-append : {A B : Type 0} (w : B → A → B) (s : B) (xs ys : List A) → fold w s (xs ++ ys) ≡ fold w (fold w s xs) ys
fold-append w s [] ys = refl
fold-append w s (x ∷ xs) ys = fold-append w (w s x) xs ys

pub fold-push : {A B C : Type 0} (w : B → A → B) (s : B) (f : C → List A) (xs : List C) (x : C)
    → fold w s (flat_map f (xs ++ x ∷ [])) ≡ fold w (fold w s (flat_map f xs)) (f x)
fold-push w s f [] x = ap (fold w s) (append-nil (f x))
fold-push w s f (y ∷ xs) x =
    fold-append w s (f y) (flat_map f (xs ++ x ∷ []))
    ∙ fold-push w (fold w s (f y)) f xs x
    ∙ ap (λ t. fold w t (f x)) (sym (fold-append w s (f y) (flat_map f xs)))

pub fold-all : {A B C : Type 0} (w : B → A → B) (s t : B) (f : C → List A) (xs ys : List C) → map (λ x. x) xs ≡ ys
    → t ≡ fold w s (flat_map f xs) → t ≡ fold w s (flat_map f ys)
fold-all w s t f xs ys all is = is ∙ ap (λ l. fold w s (flat_map f l)) (sym (map-id xs) ∙ all)
