-- Modules of a program whose names stand in the order in which they are linked.
use Rattle.std.specs.Prelude.{◌≡◌, List, [], map, reverse, IsTrue}
use Rattle.std.specs.List.{AllByRecursion}
use Rattle.cc_core.specs.Programs.{Module, AreInOrder}
use Rattle.cc_graph.specs.Graph.{ImportMap, imported}
use Rattle.cc_entry_laws.specs.LinkOrders.{are_linked_in_order}

-- each module imports from those from which it does by the import map
abbrev pub AreModulesOf : ImportMap → List Module → Type 0
AreModulesOf imports =
    AllByRecursion (λ current. map (λ names. names.module_name) current.imports ≡ imported imports current.name)

-- where their names are linked in order, the modules are
abbrev pub LinkedModulesAreInOrder : Type 0
LinkedModulesAreInOrder =
    (imports : ImportMap) (modules : List Module) → AreModulesOf imports (reverse modules)
    → IsTrue (are_linked_in_order imports [] (map (λ current. current.name) (reverse modules)))
    → AreInOrder modules
