-- What a valid derivation at a place is, and that a node is an instance of its rule with valid premises.
use Rattle.std.proofs.Common.{◌≡◌, Bool, true, false, List, [], ◌∷◌, Option, Some, None}
use Rattle.cc_core.specs.Derivations.{Claim, Derivation, Premises, NoPremise, Premise, conclusion, IsValidComparison, IsValidTyping}
use Rattle.cc_derivation.specs.Rows.{Place, Nowhere, TypeOf, SetsBelow, ShapesBelow, TypesBelow, Row}
use Rattle.cc_derivation.specs.Broken.{claims_of, are_as_many}
use Rattle.cc_derivation.specs.ValidityLaws.{IsOfSets, IsOfShapes, IsOfTypes}

-- the derivation is valid and concludes what is wanted at the place
abbrev pub IsValidAt : Place → Derivation → Type 0
IsValidAt Nowhere d = Unit {0}
IsValidAt (TypeOf g t) d = IsValidTyping g t d
IsValidAt (SetsBelow g) d = IsValidComparison g d × IsOfSets (conclusion d)
IsValidAt (ShapesBelow g) d = IsValidComparison g d × IsOfShapes (conclusion d)
IsValidAt (TypesBelow g) d = IsValidComparison g d × IsOfTypes (conclusion d)

-- the same of premises
abbrev pub AreValidAt : List Place → Premises → Type 0
AreValidAt (place ∷ places) (Premise first rest) = IsValidAt place first × AreValidAt places rest
AreValidAt _ _ = Unit {0}

-- a fact, where the test holds
abbrev pub Provided : Bool → Type 0 → Type 0
Provided true Fact = Fact
Provided false Fact = ⊥

-- there is a row, with as many premises, which are valid, and the node is an instance
abbrev pub RowHolds : Option Row → Premises → Type 0
RowHolds None premises = ⊥
RowHolds (Some row) premises =
    Provided (are_as_many (row.places (claims_of premises)) (claims_of premises))
    (AreValidAt (row.places (claims_of premises)) premises × (row.is_instance (claims_of premises) ≡ true))
