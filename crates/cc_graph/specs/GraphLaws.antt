-- What the definitions of the import graph come to.
use Rattle.std.specs.Prelude.{◌≡◌, ◌⊎◌, ◌↔◌, ℕ, List, ◌∷◌, ◌++◌, IsTrue}
use Rattle.std.specs.List.{IsDistinct}
use Rattle.std.specs.Str.{bytes_eq}
use Rattle.cc_graph.specs.Graph.{ImportMap, IsImportMap, Reaches, reaches, IsInCycle, IsOrder, is_present, is_listed}
use Rattle.cc_graph.specs.Graph.{does_import}

-- the test of reaching says yes exactly where there is a path
abbrev pub ReachingIsDecided : Type 0
ReachingIsDecided =
    (imports : ImportMap) (from to : List ℕ) → IsTrue (reaches imports from to) ↔ Reaches imports from to

-- what is reached from what is reached is reached
abbrev pub ReachingIsTransitive : Type 0
ReachingIsTransitive =
    (imports : ImportMap) (from between to : List ℕ)
    → Reaches imports from between → Reaches imports between to → Reaches imports from to

-- a module is in a cycle exactly where it reaches itself
abbrev pub CyclesAreSelfReach : Type 0
CyclesAreSelfReach = (imports : ImportMap) (name : List ℕ) → IsInCycle imports name ↔ Reaches imports name name

-- what is reached is imported by the module itself or by a present one that it reaches
abbrev pub ReachingEndsInAnImport : Type 0
ReachingEndsInAnImport =
    (imports : ImportMap) (from to : List ℕ)
    → Reaches imports from to
    ↔ ((last : List ℕ) × ((last ≡ from) ⊎ Reaches imports from last) × IsTrue (does_import imports last to))

-- there is at most one order
abbrev pub OrdersAreUnique : Type 0
OrdersAreUnique =
    (imports : ImportMap) (names others : List (List ℕ))
    → IsOrder imports names → IsOrder imports others → names ≡ others

-- what is listed in an order: each present module, and nothing else, no name twice
abbrev pub OrdersListPresentModules : Type 0
OrdersListPresentModules =
    (imports : ImportMap) (names : List (List ℕ))
    → IsOrder imports names
    → IsDistinct bytes_eq names × ((name : List ℕ) → is_listed names name ≡ is_present imports name)

-- an imported module that is present and does not reach back comes before the one that imports it
abbrev pub OrdersPutImportsFirst : Type 0
OrdersPutImportsFirst =
    (imports : ImportMap) (before after : List (List ℕ)) (name other : List ℕ)
    → IsOrder imports (before ++ name ∷ after)
    → IsTrue (does_import imports name other)
    → IsTrue (is_present imports other)
    → (Reaches imports other name → ⊥)
    → IsTrue (is_listed before other)

-- there is an order
abbrev pub OrdersExist : Type 0
OrdersExist = (imports : ImportMap) → IsImportMap imports → (names : List (List ℕ)) × IsOrder imports names
