-- What premises claim, and which set has one element.
use Rattle.std.specs.Prelude.{◌≡◌, Bool, false, List, [], ◌∷◌, Option, Some, None}
use Rattle.cc_capture.specs.declared.var.Elem.{Elem}
use Rattle.cc_core.specs.Shapes.{Shape}
use Rattle.cc_core.specs.Derivations.{Claim}
use Rattle.cc_derivation.specs.Rows.{Row, same_claims, is_chain}

-- whether there is a row, and the node is an instance where its premises claim this
abbrev pub instance_of : Option Row → List Claim → Bool
instance_of None claims = false
instance_of (Some row) claims = row.is_instance claims

-- the only element of the list
abbrev pub only_element : List Elem → Option Elem
only_element (e ∷ []) = Some e
only_element _ = None

-- the claims are not one
abbrev pub AreNotOne : List Claim → Type 0
AreNotOne claims = (claim : Claim) → same_claims claims (claim ∷ []) ≡ false

-- they are not two, and no chain of shapes
abbrev pub AreNotTwo : List Claim → Type 0
AreNotTwo claims =
    ((first second : Claim) → same_claims claims (first ∷ second ∷ []) ≡ false)
    × ((left right : Shape) → is_chain left right claims ≡ false)
