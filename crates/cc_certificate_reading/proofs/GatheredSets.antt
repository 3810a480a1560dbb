-- Sets into which elements are put from the last one on.
use Rattle.std.proofs.Common.{◌≡◌, List, [], ◌∷◌, ◌++◌, refl, ap}
use Rattle.cc_capture.specs.declared.var.Elem.{Elem}
use Rattle.cc_capture.specs.Sets.{Set, empty, insert, from_list}

-- the set with the elements
abbrev pub with_all : List Elem → Set → Set
with_all [] s = s
with_all (e ∷ es) s = insert e (with_all es s)

pub with_all-empty : (es : List Elem) → with_all es empty ≡ from_list es
unfolding from_list
with_all-empty [] = refl
with_all-empty (e ∷ es) = ap (insert e) (with_all-empty es)

pub with_all-last : (es : List Elem) (e : Elem) (s : Set) → with_all (es ++ e ∷ []) s ≡ with_all es (insert e s)
with_all-last [] e s = refl
with_all-last (x ∷ es) e s = ap (insert x) (with_all-last es e s)
