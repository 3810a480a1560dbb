-- Places that are alike stand in the same list, in whatever order they were put in.
use Rattle.std.proofs.Common.{◌≡◌, ◌++◌, List, [], ◌∷◌, map, refl, ap, sym, ◌∙◌}

alike_moves : {A B : Type 0} (b : B) (xs : List A) (rest : List B) → map (λ x. b) xs ++ (b ∷ rest) ≡ b ∷ (map (λ x. b) xs ++ rest)
alike_moves b [] rest = refl
alike_moves b (x ∷ xs) rest = ap (λ l. b ∷ l) (alike_moves b xs rest)

-- one of those that are left was put in front
pub alike_step : {A B : Type 0} (b : B) (all : List A) (x : A) (xs : List A) (before after target : List B)
    → all ≡ x ∷ xs → after ≡ b ∷ before → map (λ y. b) all ++ before ≡ target → map (λ y. b) xs ++ after ≡ target
alike_step b all x xs before after target e f h =
    ap (λ l. map (λ y. b) xs ++ l) f ∙ alike_moves b xs before ∙ sym (ap (λ l. map (λ y. b) l ++ before) e) ∙ h
