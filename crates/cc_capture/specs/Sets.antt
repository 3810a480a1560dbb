-- Capture sets, as values: finite sets of elements, with the operations on them.
use Rattle.std.specs.Prelude.{◌≡◌, Bool, true, not, List, [], ◌∷◌, ◌++◌, map}
use Rattle.std.specs.Coded.{Coded, coded_list}
use Rattle.std.specs.List.{list_all, filter, flat_map}
use Rattle.std.specs.Cmp.{IsEquivalence}
use Rattle.std.proofs.lemmas.Cmp.{on_equiv, lists_equiv, eq_by_cmp_equiv}
use Rattle.cc_capture.specs.ElementOrder.{element_order-total}
use mathlib.Core.HLevel.{Σ_prop_path}
use base.Stored.{coded_via}
use Rattle.cc_capture.specs.declared.var.Elem.{Elem}
use Rattle.cc_capture.specs.Elements.{same_element}
use Rattle.cc_capture.specs.Rising.{IsRising, is_listed, placed, same_elements}
use Rattle.cc_capture.specs.Placing.{IsRising-placed, IsRising-prop}

-- a set, as the rising list of its members
pub record Set : Type 0 where
  pub list : List Elem
  pub rising : IsRising list

-- sets are equal where their lists are
pub same_list : (a b : Set) → a.list ≡ b.list → a ≡ b
same_list a b e =
    let pairs : ◌≡◌ {A = (xs : List Elem) × IsRising xs} (a.list, a.rising) (b.list, b.rising) =
    Σ_prop_path IsRising-prop e in
    λ i. record { list = (pairs i).0; rising = (pairs i).1 }

-- how a set is stored
abbrev pub set_code : Coded Elem → Coded Set
set_code elements = coded_via (coded_list elements) (λ s. s.list) same_list

-- whether the element is a member
unfoldable pub contains : Elem → Set → Bool
contains e s = is_listed e s.list

-- the element is a member
abbrev pub Member : Elem → Set → Type 0
Member e s = contains e s ≡ true

-- the set with no member
unfoldable pub empty : Set
empty = record { list = []; rising = tt }

-- the set with one more member, unless it is one
unfoldable pub insert : Elem → Set → Set
insert x s = record { list = placed x s.list; rising = IsRising-placed x s.list s.rising }

-- the set of a list's elements
unfoldable pub from_list : List Elem → Set
from_list [] = empty
from_list (x ∷ xs) = insert x (from_list xs)

-- the members that pass a test
unfoldable pub retain : (Elem → Bool) → Set → Set
retain test s = from_list (filter test s.list)

-- the members other than x
unfoldable pub remove : Elem → Set → Set
remove x s = retain (λ e. not (same_element e x)) s

-- the members of either set
unfoldable pub union : Set → Set → Set
union a b = from_list (a.list ++ b.list)

-- what a function makes of the members
unfoldable pub image : (Elem → Elem) → Set → Set
image f s = from_list (map f s.list)

-- the members of the sets that a function makes of the members
unfoldable pub flat_image : (Elem → Set) → Set → Set
flat_image f s = from_list (flat_map (λ e. (f e).list) s.list)

-- whether the sets have the same lists
unfoldable pub same_set : Set → Set → Bool
same_set a b = same_elements a.list b.list

-- the test is an equivalence
pub same_set-equivalence : IsEquivalence same_set
unfolding same_set same_element
same_set-equivalence = on_equiv (λ s. s.list) (lists_equiv (eq_by_cmp_equiv element_order-total))

-- whether each member of a is a member of b
unfoldable pub is_subset : Set → Set → Bool
is_subset a b = list_all (λ e. contains e b) a.list
