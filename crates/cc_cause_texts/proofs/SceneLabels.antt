-- The labels of local variables stand behind the names, the oldest first.
use Rattle.std.proofs.Common.{◌≡◌, ℕ, List, [], ◌∷◌, ◌++◌, map, reverse, refl, sym, ap, ◌∙◌, append_assoc, append-nil}
use Rattle.std.proofs.lemmas.List.{reverse-append}
use Rattle.cc_reasons.specs.Causes.{Local}
use Rattle.cc_reasons.specs.ReasonTexts.{local_name, with_locals}

pub with_reversed : (names : List (List ℕ)) (locals : List Local) → with_locals names locals ≡ names ++ reverse (map local_name locals)
with_reversed names [] = sym (append-nil names)
with_reversed names (newest ∷ older) =
    ap (λ others. others ++ local_name newest ∷ []) (with_reversed names older)
    ∙ append_assoc names (reverse (map local_name older)) (local_name newest ∷ [])
    ∙ ap (λ others. names ++ others) (sym (reverse-append (local_name newest ∷ []) (map local_name older)))

map_append : {A B : Type 0} (f : A → B) (xs ys : List A) → map f (xs ++ ys) ≡ map f xs ++ map f ys
map_append f [] ys = refl
map_append f (x ∷ xs) ys = ap (λ l. f x ∷ l) (map_append f xs ys)

pub reversed_map : {A B : Type 0} (f : A → B) (items : List A) → map f (reverse items) ≡ reverse (map f items)
reversed_map f [] = refl
reversed_map f (first ∷ others) =
    ap (map f) (reverse-append (first ∷ []) others) ∙ map_append f (reverse others) (first ∷ [])
    ∙ ap (λ l. l ++ f first ∷ []) (reversed_map f others) ∙ sym (reverse-append (f first ∷ []) (map f others))

-- names, and the local variables behind them, as one list of labels
pub labels_joined : {A : Type 0} (f : A → List ℕ) (first others all : List A) (names : List (List ℕ)) (locals : List Local)
    → all ≡ first ++ others → map f first ≡ names → map f others ≡ reverse (map local_name locals) → map f all ≡ with_locals names locals
labels_joined f first others all names locals is a b =
    ap (map f) is ∙ map_append f first others ∙ (λ i. a i ++ b i) ∙ sym (with_reversed names locals)
