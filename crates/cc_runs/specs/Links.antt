-- Programs that are linked from the modules of an entry: the store with the devices and the definitions of all modules,
-- and the start of a run. The functions take lists that are turned round, as those on checked modules do.
use Rattle.std.specs.Prelude.{ℕ, ◌+◌, ◌-◌, nat_eq, nat_lt, List, [], ◌∷◌, ◌++◌, map, reverse, length, Option, Some}
use Rattle.std.specs.Prelude.{None, if◌then◌else◌}
use Rattle.std.specs.Option.{unwrap_or}
use Rattle.std.specs.Str.{bytes_eq}
use Rattle.cc_base.specs.declared.literal.Base.{Base}
use Rattle.cc_base.specs.declared.literal.Base.TheVariants as bases
use Rattle.cc_capture.specs.declared.var.Var.TheVariants.{Free}
use Rattle.cc_base.specs.Literals.{UnitLiteral}
use Rattle.cc_capture.specs.Sets.{empty}
use Rattle.cc_core.specs.Shapes.{BaseShape}
use Rattle.cc_core.specs.Terms.{LiteralTerm, Application}
use Rattle.cc_core.specs.Contexts.{TermEntry, Context}
use Rattle.cc_core.specs.Substitution.{renamed_term}
use Rattle.cc_core.specs.Stores.{Cell, ValueCell, DeviceCell, Store}
use Rattle.cc_core.specs.Programs.{Import, Definition, Module, Entry, device_context, definition_context}
use Rattle.cc_runs.specs.Machine.{Configuration, configured}

-- how many definitions the modules have
abbrev pub count_definitions : List Module → ℕ
count_definitions [] = 0
count_definitions (newest ∷ older) = length (reverse newest.definitions) + count_definitions older

-- the position of the definition of the name, if there is one, where so many positions stand before the definitions
abbrev pub position_among : ℕ → List ℕ → List Definition → Option ℕ
position_among before name [] = None
position_among before name (newest ∷ older) =
    if bytes_eq newest.name name then Some (before + length older) else position_among before name older

-- the position of the definition that the name of a module and its own stand for, if there is one: the definitions
-- stand after so many devices, and each module's after those of the modules before it
abbrev pub position_in : ℕ → List ℕ → List ℕ → List Module → Option ℕ
position_in devices module_name name [] = None
position_in devices module_name name (newest ∷ older) =
    if bytes_eq newest.name module_name
    then position_among (devices + count_definitions older) name (reverse newest.definitions)
    else position_in devices module_name name older

-- where a position below those of a module's own definitions stands in the store: an import stands where what it names
-- does, and a device stays
abbrev pub import_position : ℕ → List Module → List Import → ℕ → ℕ
import_position devices earlier [] position = position
import_position devices earlier (newest ∷ older) position =
    if nat_eq position (devices + length older)
    then unwrap_or (position_in devices newest.module_name newest.definition_name earlier) position
    else import_position devices earlier older position

-- Where a position of the context that a module is checked in stands in the store: devices and imports as above, and
-- the module's own definitions one after the other behind those of the earlier modules.
abbrev pub linked_position : ℕ → List Module → List Import → ℕ → ℕ
linked_position devices earlier imports position =
    if nat_lt position (devices + length imports)
    then import_position devices earlier imports position
    else devices + count_definitions earlier + (position - (devices + length imports))

-- the cell of a definition, whose variables are taken to where they stand in the store
abbrev pub linked_cell : (ℕ → ℕ) → Definition → Cell
linked_cell to definition = ValueCell (renamed_term to definition.value)

-- the cells of devices, each with its number
abbrev pub device_cells : List Base → Store
device_cells [] = []
device_cells (newest ∷ older) = DeviceCell (length older) newest ∷ device_cells older

-- The store of the devices and of all definitions of the modules, in order.
abbrev pub linked_store : List Base → List Module → Store
linked_store devices [] = device_cells (reverse devices)
linked_store devices (newest ∷ older) =
    map (linked_cell (linked_position (length devices) older (reverse newest.imports))) (reverse newest.definitions)
    ++ linked_store devices older

-- the context of that store: each definition has its signature
abbrev pub linked_context : List Base → List Module → Context
linked_context devices [] = device_context devices
linked_context devices (newest ∷ older) = definition_context (linked_context devices older) (reverse newest.definitions)

-- the linked store of an entry's modules, and its context
abbrev pub entry_store : Entry → Store
entry_store entry = linked_store entry.devices (reverse entry.modules)

abbrev pub entry_context : Entry → Context
entry_context entry = linked_context entry.devices (reverse entry.modules)

-- where the definition that two names stand for is in that store, if there is one
abbrev pub position_of : Entry → List ℕ → List ℕ → Option ℕ
position_of entry module_name name = position_in (length entry.devices) module_name name (reverse entry.modules)

-- where the definition stands that is run
abbrev pub entry_position : Entry → ℕ
entry_position entry = unwrap_or (position_of entry entry.module_name entry.definition_name) 0

-- the store of an entry's program has a cell with unit besides
abbrev pub program_store : Entry → Store
program_store entry = ValueCell (LiteralTerm UnitLiteral) ∷ entry_store entry

abbrev pub program_context : Entry → Context
program_context entry = TermEntry (BaseShape bases.Unit) empty ∷ entry_context entry

-- The start of an entry's program: no frame, no label, and the definition that is run, applied to the cell with unit.
abbrev pub program_start : Entry → Configuration
program_start entry =
    configured (program_store entry) [] 0
    (Application (Free (entry_position entry)) (Free (length (entry_store entry))))
