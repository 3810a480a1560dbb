-- Sets of places as bits, and rows of such sets, for the code of the graph.
use Rattle.std.specs.Prelude.{◌≡◌, ◌⊎◌, ℕ, ◌+◌, ◌/◌, ◌%◌, ◌<◌, ◌≤◌, nat_eq, Bool, true, false, not, ◌&&◌, List, [], ◌∷◌}
use Rattle.std.specs.Prelude.{length, suc, zero, slice_index, slice_index_or}
use Rattle.std.specs.Int.{bit_at}
use Rattle.std.specs.List.{list_any}
use Rattle.std.specs.Str.{bytes_eq}
use Rattle.cc_graph.specs.Graph.{ImportMap, IsImportMap, does_import, reaches}

-- whether the place is in the set, in words of 64 bits
unfoldable pub has_bit : List ℕ → ℕ → Bool
has_bit words place = nat_eq (bit_at (slice_index words (place / 64)) (place % 64)) 1

-- whether the place is in the set of the row
abbrev pub has_at : List (List ℕ) → ℕ → ℕ → Bool
has_at rows row place = has_bit (slice_index_or rows row []) place

-- how many words a set of so many places has
abbrev pub width_for : ℕ → ℕ
width_for count = count / 64 + 1

-- each row has so many words
abbrev pub AreWide : ℕ → List (List ℕ) → Type 0
AreWide width rows = (row : ℕ) → row < length rows → length (slice_index_or rows row []) ≡ width

-- the places below a number, the greatest first
abbrev pub places_below : ℕ → List ℕ
places_below zero = []
places_below (suc n) = n ∷ places_below n

-- the place is not in the set, and the row is within it
abbrev pub MayCome : List ℕ → List ℕ → ℕ → Type 0
MayCome row listed place =
    (has_bit listed place ≡ false) × ((other : ℕ) → has_bit row other ≡ true → has_bit listed other ≡ true)

-- the place is in the set, or the row is not within it
abbrev pub IsHeld : List ℕ → List ℕ → ℕ → Type 0
IsHeld row listed place =
    (has_bit listed place ≡ true) ⊎ ((other : ℕ) × (has_bit row other ≡ true) × (has_bit listed other ≡ false))

-- the name at a place
abbrev pub name_at : ImportMap → ℕ → List ℕ
name_at imports place = (slice_index_or imports place ([], [])).0

-- the names that the module at a place imports
abbrev pub imports_at : ImportMap → ℕ → List (List ℕ)
imports_at imports place = (slice_index_or imports place ([], [])).1

-- Each place has those whose modules hold it up at first: imported ones that do not reach back.
pub record HoldsUp (imports : ImportMap) (rows : List (List ℕ)) : Type 0 where
  pub map : IsImportMap imports
  pub count : length rows ≡ length imports
  pub wide : AreWide (width_for (length imports)) rows
  pub bits : (from to : ℕ) → from < length imports → to < length imports
      → has_at rows from to
      ≡ (does_import imports (name_at imports from) (name_at imports to)
      && not (reaches imports (name_at imports to) (name_at imports from)))
  pub inside : (from to : ℕ) → length imports ≤ to → has_at rows from to ≡ false

-- Each place has those whose modules its own reaches.
pub record IsClosed (imports : ImportMap) (rows : List (List ℕ)) : Type 0 where
  pub count : length rows ≡ length imports
  pub bits : (from to : ℕ) → from < length imports → to < length imports
      → has_at rows from to ≡ reaches imports (name_at imports from) (name_at imports to)

-- each place has those whose modules its own imports
pub record AreImports (imports : ImportMap) (rows : List (List ℕ)) : Type 0 where
  pub count : length rows ≡ length imports
  pub wide : AreWide (width_for (length imports)) rows
  pub bits : (from to : ℕ) → from < length imports → to < length imports
      → has_at rows from to ≡ does_import imports (name_at imports from) (name_at imports to)
  pub inside : (from to : ℕ) → length imports ≤ to → has_at rows from to ≡ false

-- some module that is the first one, or that the row has, imports the name
abbrev pub IsImportedFrom : ImportMap → List ℕ → ℕ → List ℕ → ℕ → Type 0
IsImportedFrom imports row first to last =
    (last < length imports)
    × (((last ≡ first) ⊎ (has_bit row last ≡ true)) × (list_any (bytes_eq to) (imports_at imports last) ≡ true))
