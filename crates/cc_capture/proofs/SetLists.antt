-- The set of a rising list, and the list of a set.
use Rattle.std.proofs.Common.{◌≡◌, List, [], ◌∷◌, refl, ap, ◌∙◌}
use Rattle.cc_capture.specs.declared.var.Elem.{Elem}
use Rattle.cc_capture.specs.Rising.{IsBelowAll, IsRising, placed}
use Rattle.cc_capture.specs.Sets.{Set, same_list, empty, insert, from_list}

placed-below : (x : Elem) (xs : List Elem) → IsBelowAll x xs → placed x xs ≡ x ∷ xs
unfolding placed
placed-below x [] a = refl
placed-below x (y ∷ ys) a = rw a.0 refl

-- a rising list is the list of its set
pub list-from_list : (xs : List Elem) → IsRising xs → (from_list xs).list ≡ xs
unfolding from_list empty insert
list-from_list [] r = refl
list-from_list (x ∷ xs) r = ap (placed x) (list-from_list xs r.1) ∙ placed-below x xs r.0

-- and a set is the set of its list
pub from_list-list : (s : Set) → from_list s.list ≡ s
from_list-list s = same_list _ _ (list-from_list s.list s.rising)

pub from_list-is : (xs : List Elem) (s : Set) → xs ≡ s.list → from_list xs ≡ s
from_list-is xs s e = ap from_list e ∙ from_list-list s
