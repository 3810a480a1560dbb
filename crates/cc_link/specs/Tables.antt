-- The positions that tables have for names.
use Rattle.std.specs.Prelude.{◌≡◌, ℕ, List, Option, Some, None}
use Rattle.std.specs.BTreeMap.{get}
use Rattle.cc_base.specs.Names.{compare_names}
use Rattle.cc_core.specs.Programs.{Module}
use Rattle.cc_link.specs.declared.table.DefinitionTable.{DefinitionTable}
use Rattle.cc_link.specs.declared.table.ModuleTable.{ModuleTable}
use Rattle.cc_runs.specs.Links.{position_in}

-- the position of the definition of the name, if there is one
abbrev pub definition_position : DefinitionTable → List ℕ → Option ℕ
definition_position table name = get compare_names table.positions name

-- the same in the table of a module, if there is one
abbrev pub position_found : Option DefinitionTable → List ℕ → Option ℕ
position_found (Some table) name = definition_position table name
position_found None name = None

-- the position of the definition that the name of a module and its own stand for, if there is one
abbrev pub module_position : ModuleTable → List ℕ → List ℕ → Option ℕ
module_position table module_name name = position_found (get compare_names table.modules module_name) name

-- the table finds the definitions of the modules, which are turned round, where they stand behind so many devices
abbrev pub Finds : ℕ → List Module → ModuleTable → Type 0
Finds devices modules table =
    (module_name name : List ℕ) → module_position table module_name name ≡ position_in devices module_name name modules
