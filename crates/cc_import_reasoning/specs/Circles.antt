-- What the search of circles finds. It serves the code alone.
use Rattle.std.specs.Prelude.{◌≡◌, ℕ, ◌<◌, List, length, map, Option, Some, None, IsTrue, Vec, true}
use Rattle.std.specs.declared.alloc.Global.{Global}
use Rattle.std.specs.Str.{bytes_eq}
use Rattle.cc_reasons.specs.ShortestChains.{IsFirstShortestToEnd}
use Rattle.std.specs.List.{slice_get}
use Rattle.cc_graph.specs.Graph.{ImportMap, imported, is_present, reaches}
use Rattle.cc_graph.specs.Places.{name_at}
use Rattle.cc_import_reasoning.specs.Distances.{distance_at}

-- the place is that of the module of the name; without one there is none
abbrev pub IsPlaceOf : ImportMap → List ℕ → Option ℕ → Type 0
IsPlaceOf graph name (Some place) = (place < length graph) × (name_at graph place ≡ name)
IsPlaceOf graph name None = (place : ℕ) → place < length graph → name_at graph place ≡ name → ⊥

-- the module of the name has this distance
abbrev pub IsAtDistance : ImportMap → List (Option ℕ) → ℕ → List ℕ → Type 0
IsAtDistance graph distances links name =
    (place : ℕ) × (place < length graph) × (name_at graph place ≡ name) × (distance_at distances place ≡ Some links)

-- The first of the names whose module has this distance, by its place; without one no name's module has it.
pub record IsFirstAt (graph : ImportMap) (distances : List (Option ℕ)) (links : ℕ) (names : List (List ℕ)) (found : ℕ) :
    Type 0 where
  pub index : ℕ
  pub within : found < length graph
  pub known : distance_at distances found ≡ Some links
  pub stands : slice_get names index ≡ Some (name_at graph found)
  pub before : (other : ℕ) (name : List ℕ) → other < index → slice_get names other ≡ Some name
      → IsAtDistance graph distances links name → ⊥

abbrev pub FindsFirstAt : ImportMap → List (Option ℕ) → ℕ → List (List ℕ) → Option ℕ → Type 0
FindsFirstAt graph distances links names (Some found) = IsFirstAt graph distances links names found
FindsFirstAt graph distances links names None =
    (other : ℕ) (name : List ℕ) → slice_get names other ≡ Some name → IsAtDistance graph distances links name → ⊥

-- the place is that of the module of the name, whose distance is this one; without one it is not
abbrev pub FindsAt : ImportMap → List (Option ℕ) → ℕ → List ℕ → Option ℕ → Type 0
FindsAt graph distances links name (Some found) =
    (found < length graph) × (name_at graph found ≡ name) × (distance_at distances found ≡ Some links)
FindsAt graph distances links name None = IsAtDistance graph distances links name → ⊥

-- the places of the first of the shortest chains from the source to the name; without one the name is that of no module, or
-- imports do not lead from the source to it
abbrev pub FindsCircle : ImportMap → List ℕ → List ℕ → Option (Vec ℕ Global) → Type 0
FindsCircle graph name source (Some places) =
    IsFirstShortestToEnd (imported graph) (bytes_eq name) source (map (name_at graph) places.items)
FindsCircle graph name source None = IsTrue (is_present graph name) → reaches graph source name ≡ true → ⊥
