-- Lists of elements that rise.
use Rattle.std.specs.Prelude.{◌≡◌, Bool, List, [], ◌∷◌}
use Rattle.std.specs.declared.cmp.Ordering.TheVariants.{Less}
use Rattle.std.specs.Ordering.{match_ordering}
use lib.Pointwise.{pointwise}
use Rattle.std.specs.List.{list_any}
use Rattle.cc_capture.specs.declared.var.Elem.{Elem}
use Rattle.cc_capture.specs.Elements.{element_order, same_element}

-- x comes before y in the order of elements
abbrev pub IsBelow : Elem → Elem → Type 0
IsBelow x y = element_order x y ≡ Less

-- x comes before each of the elements
abbrev pub IsBelowAll : Elem → List Elem → Type 0
IsBelowAll x [] = Unit {0}
IsBelowAll x (y ∷ ys) = IsBelow x y × IsBelowAll x ys

-- each element comes before all that follow it
abbrev pub IsRising : List Elem → Type 0
IsRising [] = Unit {0}
IsRising (x ∷ xs) = IsBelowAll x xs × IsRising xs

-- whether the element is one of the list
abbrev pub is_listed : Elem → List Elem → Bool
is_listed e xs = list_any (same_element e) xs

-- a rising list with the element x in its place, unless it is there
unfoldable pub placed : Elem → List Elem → List Elem
placed x [] = x ∷ []
placed x (y ∷ ys) = match_ordering (element_order x y) (x ∷ y ∷ ys) (y ∷ ys) (y ∷ placed x ys)

-- whether the two lists have the same elements in the same order
abbrev pub same_elements : List Elem → List Elem → Bool
same_elements = pointwise same_element
