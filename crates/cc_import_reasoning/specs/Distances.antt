-- How far names are from one, along links, and what is known of that. It serves the code alone.
use Rattle.std.specs.Prelude.{◌≡◌, ℕ, suc, ◌<◌, ◌≤◌, Bool, true, false, List, [], ◌∷◌, length, slice_index_or, IsTrue, Option, Some, None}
use Rattle.std.specs.List.{Contains, list_any}
use Rattle.std.specs.Str.{bytes_eq}
use Rattle.cc_explain.specs.Chains.{LeadsAlong}

-- a function from names to the names that they lead to
abbrev pub Links : Type 0
Links = List ℕ → List (List ℕ)

-- every way on from the name to the end has so many links, or more
abbrev pub IsFarFrom : Links → List ℕ → ℕ → List ℕ → Type 0
IsFarFrom entry end links from =
    (others : List (List ℕ)) (to : List ℕ) → IsTrue (bytes_eq end to) → LeadsAlong entry from others to
    → links ≤ length others

-- some way on from the name to the end has so many links, and none has fewer
pub record IsDistance (entry : Links) (end from : List ℕ) (links : ℕ) : Type 0 where
  pub others : List (List ℕ)
  pub leads : LeadsAlong entry from others end
  pub long : length others ≡ links
  pub least : IsFarFrom entry end links from

-- the distance is known, if it is not above this one
abbrev pub IsKnownTo : Links → List ℕ → ℕ → List ℕ → Option ℕ → Type 0
IsKnownTo entry end links from (Some distance) = (distance ≤ links) × IsDistance entry end from distance
IsKnownTo entry end links from None = IsFarFrom entry end (suc links) from

-- the distance is known; without one there is no way on to the end
abbrev pub IsKnown : Links → List ℕ → List ℕ → Option ℕ → Type 0
IsKnown entry end from (Some distance) = IsDistance entry end from distance
IsKnown entry end from None =
    (others : List (List ℕ)) (to : List ℕ) → IsTrue (bytes_eq end to) → LeadsAlong entry from others to → ⊥

-- what is known of a place
abbrev pub distance_at : List (Option ℕ) → ℕ → Option ℕ
distance_at distances place = slice_index_or distances place None

-- the same of the names at all places
abbrev pub AreKnownTo : Links → (ℕ → List ℕ) → List ℕ → ℕ → List (Option ℕ) → Type 0
AreKnownTo entry named end links distances =
    (place : ℕ) → place < length distances → IsKnownTo entry end links (named place) (distance_at distances place)

abbrev pub AreKnown : Links → (ℕ → List ℕ) → List ℕ → List (Option ℕ) → Type 0
AreKnown entry named end distances =
    (place : ℕ) → place < length distances → IsKnown entry end (named place) (distance_at distances place)

-- whether the place is marked
abbrev pub is_marked : List Bool → ℕ → Bool
is_marked row place = slice_index_or row place false

-- whether it is in the row of a place
abbrev pub is_marked_at : List (List Bool) → ℕ → ℕ → Bool
is_marked_at rows from to = is_marked (slice_index_or rows from []) to

-- Each place has a name of its own, and in its row those places are marked whose names it leads to. Only names at places
-- lead on.
pub record AreLinks (entry : Links) (named : ℕ → List ℕ) (rows : List (List Bool)) : Type 0 where
  pub marks : (from to : ℕ) → from < length rows → to < length rows
      → is_marked_at rows from to ≡ list_any (bytes_eq (named to)) (entry (named from))
  pub only : (name next : List ℕ) → Contains (entry name) next → (place : ℕ) × (place < length rows) × (named place ≡ name)
  pub apart : (place other : ℕ) → place < length rows → other < length rows → named place ≡ named other → place ≡ other

-- at a marked place the distance is this one
abbrev pub HasNear : List Bool → List (Option ℕ) → ℕ → Type 0
HasNear row distances links =
    (place : ℕ) × (place < length distances) × (is_marked row place ≡ true) × (distance_at distances place ≡ Some links)

-- at no marked place it is
abbrev pub HasNoneNear : List Bool → List (Option ℕ) → ℕ → Type 0
HasNoneNear row distances links =
    (place : ℕ) → place < length distances → is_marked row place ≡ true → distance_at distances place ≡ Some links → ⊥

-- of how many places nothing is known
abbrev pub unknown_count : List (Option ℕ) → ℕ
unknown_count [] = 0
unknown_count (Some distance ∷ distances) = unknown_count distances
unknown_count (None ∷ distances) = suc (unknown_count distances)
