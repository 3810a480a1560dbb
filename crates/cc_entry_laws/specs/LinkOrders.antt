-- The order in which the modules of a program are linked, and the order of the import graph.
use Rattle.std.specs.Prelude.{ℕ, Bool, true, false, ◌&&◌, ◌||◌, List, [], ◌∷◌, reverse, IsTrue, if◌then◌else◌}
use Rattle.std.specs.List.{filter, list_all}
use Rattle.std.specs.Option.{is_some}
use Rattle.std.specs.Str.{bytes_eq}
use Rattle.cc_base.specs.declared.device.DeviceDecl.{DeviceDecl}
use Rattle.cc_graph.specs.Graph.{ImportMap, imported, is_present, does_import, Reaches, reaches}
use Rattle.cc_graph.specs.Graph.{is_listed, IsOrder}
use Rattle.cc_base.specs.Names.{is_name_before}
use Rattle.cc_verdicts.specs.ModuleVerdicts.{ModuleVerdict, IsAccepted, IsRefused}
use Rattle.cc_verdicts.specs.PresentTexts.{Texts, text_of, graph_of, AreVerdicts}

-- whether all that the module imports is listed
abbrev pub has_imports_listed : ImportMap → List (List ℕ) → List ℕ → Bool
has_imports_listed imports listed name = list_all (is_listed listed) (imported imports name)

-- The names, turned round, stand in the order in which their modules are linked, before others that wait: the next one
-- is always the first by name of those that are not yet listed and import from listed modules alone.
abbrev pub are_linked_in_order : ImportMap → List (List ℕ) → List (List ℕ) → Bool
are_linked_in_order imports waiting [] = true
are_linked_in_order imports waiting (newest ∷ older) =
    has_imports_listed imports older newest
    && (list_all (λ other. if has_imports_listed imports older other then is_name_before newest other else true) waiting
    && are_linked_in_order imports (newest ∷ waiting) older)

-- modules are chosen with all that they import, which is present, and none of them is in a cycle
pub record AreClosed (imports : ImportMap) (chosen : List ℕ → Bool) : Type 0 where
  pub imports_chosen : (name other : List ℕ) → IsTrue (chosen name) → IsTrue (does_import imports name other)
      → IsTrue (chosen other)
  pub imports_present : (name other : List ℕ) → IsTrue (chosen name) → IsTrue (does_import imports name other)
      → IsTrue (is_present imports other)
  pub no_cycle : (name : List ℕ) → IsTrue (chosen name) → Reaches imports name name → ⊥

-- what is chosen so stands in the order of the graph as it is linked
abbrev pub ChosenOrdersAreLinkOrders : Type 0
ChosenOrdersAreLinkOrders =
    (imports : ImportMap) (names : List (List ℕ)) (chosen : List ℕ → Bool)
    → IsOrder imports names → AreClosed imports chosen
    → IsTrue (are_linked_in_order imports [] (filter chosen (reverse names)))

-- whether the module is this one, or one that it reaches
abbrev pub is_reached : ImportMap → List ℕ → List ℕ → Bool
is_reached imports from name = bytes_eq from name || reaches imports from name

abbrev pub is_accepted : ModuleVerdict → Bool
is_accepted (IsAccepted definitions) = true
is_accepted (IsRefused code at) = false

-- whether the module is present and accepted
abbrev pub is_accepted_module : Texts → (List ℕ → ModuleVerdict) → List ℕ → Bool
is_accepted_module texts verdicts name = is_some (text_of texts name) && is_accepted (verdicts name)

-- an accepted module reaches accepted ones alone, and it is in no cycle
abbrev pub AcceptedModulesReachAccepted : Type 0
AcceptedModulesReachAccepted =
    (devices : List DeviceDecl) (texts : Texts) (verdicts : List ℕ → ModuleVerdict)
    → AreVerdicts devices texts verdicts → (from : List ℕ) → IsTrue (is_accepted_module texts verdicts from)
    → ((name : List ℕ) → IsTrue (is_reached (graph_of texts) from name)
    → IsTrue (is_accepted_module texts verdicts name))
    × (Reaches (graph_of texts) from from → ⊥)

-- it stands with what it reaches in the order of the graph as they are linked
abbrev pub AcceptedOrdersAreLinkOrders : Type 0
AcceptedOrdersAreLinkOrders =
    (devices : List DeviceDecl) (texts : Texts) (verdicts : List ℕ → ModuleVerdict)
    → AreVerdicts devices texts verdicts → (from : List ℕ) → IsTrue (is_accepted_module texts verdicts from)
    → (names : List (List ℕ)) → IsOrder (graph_of texts) names
    → IsTrue (are_linked_in_order (graph_of texts) [] (filter (is_reached (graph_of texts) from) (reverse names)))
