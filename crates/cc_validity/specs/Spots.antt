-- The places that the program's values stand for, and what a row says of them.
use Rattle.std.specs.Prelude.{List, [], ◌∷◌, Option, Some, None}
use Rattle.cc_core.specs.Reading.{read_term}
use Rattle.cc_core.specs.TermViews.{term_of, context_of}
use Rattle.cc_core.specs.Derivations.{Claim}
use Rattle.cc_derivation.specs.Rows.{Place, Nowhere, TypeOf, SetsBelow, ShapesBelow, TypesBelow, Row}
use Rattle.cc_validity.specs.declared.places.Spot.{Spot}
use Rattle.cc_validity.specs.declared.places.Spot.TheVariants as spots
use Rattle.cc_validity.specs.declared.places.Spots.{Spots}
use Rattle.cc_validity.specs.declared.places.Spots.TheVariants as lists

-- the place
abbrev pub place_of : Spot → Place
place_of spots.Nowhere = Nowhere
place_of (spots.TypeOf ctx term entries) = TypeOf (context_of ctx) (read_term entries (term_of term.node.value))
place_of (spots.Sets ctx) = SetsBelow (context_of ctx)
place_of (spots.Shapes ctx) = ShapesBelow (context_of ctx)
place_of (spots.Types ctx) = TypesBelow (context_of ctx)

-- the places
abbrev pub places_of : Spots → List Place
places_of lists.End = []
places_of (lists.More' spot p rest) = place_of spot ∷ places_of rest

-- the places that a row has for its premises, if there is a row
abbrev pub places_in : Option Row → List Claim → Option (List Place)
places_in None claims = None
places_in (Some row) claims = Some (row.places claims)
