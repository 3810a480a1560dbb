-- Equal values of one constructor have equal parts, and those of two are never equal.
use Rattle.std.proofs.Common.{◌≡◌, List, ◌∷◌, Some, None}

pub some_is : {A : Type 0} (x y : A) → Some x ≡ Some y → x ≡ y
some_is x y h = cc

pub none_is_some : {A : Type 0} (x : A) → None ≡ Some x → ⊥
none_is_some x h = cc

pub cons_is : {A : Type 0} (x y : A) (xs ys : List A) → x ∷ xs ≡ y ∷ ys → (x ≡ y) × (xs ≡ ys)
cons_is x y xs ys h = (cc, cc)
