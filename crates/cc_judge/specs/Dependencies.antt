-- What the program finds of the imports of the present texts. It serves the code alone.
use Rattle.std.specs.Prelude.{◌≡◌, ℕ, ◌<◌, nat_eq, true, false, ◌&&◌, List, [], ◌∷◌, ◌++◌, length, map, slice_get, slice_index_or}
use Rattle.std.specs.Prelude.{Option, Some, None}
use Rattle.std.specs.BTreeMap.{insert_entry}
use Rattle.std.specs.List.{AllByRecursion, list_any}
use Rattle.std.specs.Map.{keys_of}
use Rattle.std.specs.Str.{bytes_eq}
use Rattle.cc_graph.specs.Graph.{ImportMap, IsOrder}
use Rattle.cc_base.specs.Names.{compare_names}
use Rattle.cc_grammar.specs.Syntax.{ImportSyntax}
use Rattle.cc_verdicts.specs.PresentTexts.{Texts, graph_of}
use Rattle.cc_verdicts.specs.Readings.{imports_of}
use Rattle.cc_judge.specs.Judgements.{Judgement}
use Rattle.cc_judge.specs.Places.{name_at, text_at}
use Rattle.cc_judge.specs.declared.dependencies.Dependencies.{Dependencies}

-- the names of the modules that are imported from
abbrev pub sources_of : List ImportSyntax → List (List ℕ)
sources_of imports = map (λ one. one.source) imports

-- the graph with the module, if its text is one
abbrev pub inserted : List ℕ → Option (List ImportSyntax) → ImportMap → ImportMap
inserted name (Some imports) graph = insert_entry compare_names graph name (sources_of imports)
inserted name None graph = graph

-- the imports of texts that are modules
abbrev pub readings_of : List (List ℕ) → List (Option (List ImportSyntax))
readings_of readings = map imports_of readings

-- the texts that were read are the present ones
abbrev pub AreRead : Texts → List (List ℕ) → Type 0
AreRead texts readings = readings ≡ map (λ one. one.1) texts

-- at the place stands a text that is no module
abbrev pub IsUnread : List (Option (List ImportSyntax)) → ℕ → Type 0
IsUnread readings place = slice_get readings place ≡ Some None

-- the places with one more, if the text there is no module
abbrev pub with_unread : Option (List ImportSyntax) → ℕ → List ℕ → List ℕ
with_unread (Some imports) place places = places
with_unread None place places = places ++ place ∷ []

-- the places are those of the texts that are no modules
pub record ListsUnread (readings : List (Option (List ImportSyntax))) (places : List ℕ) : Type 0 where
  pub are : AllByRecursion (IsUnread readings) places
  pub all : (place : ℕ) → IsUnread readings place → list_any (nat_eq place) places ≡ true

-- these are the places of the names
abbrev pub ArePlacesOf : List (List ℕ) → List (List ℕ) → List ℕ → Type 0
ArePlacesOf keys names places = map (slice_get keys) places ≡ map Some names

-- the place of the name comes behind the others, where the name is among the keys
abbrev pub PushesPlace : List (List ℕ) → List ℕ → List ℕ → List ℕ → Type 0
PushesPlace keys name old new =
    list_any (bytes_eq name) keys ≡ true
    → (place : ℕ) × (slice_get keys place ≡ Some name) × (new ≡ old ++ place ∷ [])

-- the places of the names come behind the others, where all names are among the keys
abbrev pub PushesNamed : List (List ℕ) → List (List ℕ) → List ℕ → List ℕ → Type 0
PushesNamed keys names old new =
    AllByRecursion (λ name. list_any (bytes_eq name) keys ≡ true) names
    → (more : List ℕ) × (new ≡ old ++ more) × ArePlacesOf keys names more

-- The places of the texts that are no modules, and then those of the modules, in the order of the graph.
pub record IsSchedule (texts : Texts) (places : List ℕ) : Type 0 where
  pub unread : List ℕ
  pub ordered : List ℕ
  pub names : List (List ℕ)
  pub parts : places ≡ unread ++ ordered
  pub lists : ListsUnread (map (λ one. imports_of one.1) texts) unread
  pub order : IsOrder (graph_of texts) names
  pub named : ArePlacesOf (keys_of texts) names ordered

-- the place is that of the last judgement of the module with this text; without one there is no such judgement
abbrev pub IsJudgedBefore : List Judgement → List ℕ → List ℕ → Option ℕ → Type 0
IsJudgedBefore last name text (Some at) =
    (one : Judgement) × (slice_get last at ≡ Some one) × (one.name ≡ name) × (one.text ≡ text)
IsJudgedBefore last name text None = list_any (λ one. bytes_eq one.name name && bytes_eq one.text text) last ≡ false

-- the same of all present texts
pub record AreJudgedBefore (last : List Judgement) (texts : Texts) (places : List (Option ℕ)) : Type 0 where
  pub count : length places ≡ length texts
  pub each : (place : ℕ) → place < length texts
      → IsJudgedBefore last (name_at texts place) (text_at texts place) (slice_index_or places place None)

pub record AreDependencies (last : List Judgement) (texts : Texts) (found : Dependencies) : Type 0 where
  pub read : AreRead texts found.readings.items
  pub judged : AreJudgedBefore last texts found.judged.items
  pub graph : found.graph.value.graph ≡ graph_of texts
  pub schedule : IsSchedule texts found.schedule.items
