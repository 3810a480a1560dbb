-- The text of a chain, piece by piece.
use Rattle.std.proofs.Common.{◌≡◌, ℕ, List, [], ◌∷◌, ◌++◌, map, flat_map, sym, ap}
use Rattle.std.specs.List.{join_with_byte}
use Rattle.std.proofs.lemmas.List.{append-nil}

-- the first piece, and each other one behind a space
pub pieces_joined : {A B : Type 0} (text : B → List ℕ) (named : A → B) (x : A) (xs : List A)
    → join_with_byte 32 (map text (map named (x ∷ xs))) ≡ text (named x) ++ flat_map (λ t. 32 ∷ text (named t)) xs
pieces_joined text named x [] = sym (append-nil (text (named x)))
pieces_joined text named x (y ∷ ys) = ap (λ t. text (named x) ++ (32 ∷ t)) (pieces_joined text named y ys)
