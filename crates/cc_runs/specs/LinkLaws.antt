-- Programs that are linked from the modules of an entry are typed, and run soundly.
use Rattle.std.specs.Prelude.{◌≡◌, ℕ, List, map, reverse, Some}
use Rattle.cc_base.specs.declared.device.Kind.{Kind}
use Rattle.cc_core.specs.Shapes.{CapturingType}
use Rattle.cc_core.specs.Terms.{Term}
use Rattle.cc_core.specs.Contexts.{entry_of, lookup}
use Rattle.cc_core.specs.Typing.{HasType}
use Rattle.cc_core.specs.Stores.{ValueCell, HasStoreTyping}
use Rattle.cc_core.specs.Programs.{Definition, Entry, definition_in, IsEntry}
use Rattle.cc_device.specs.Declarations.{declared_state, declared_base}
use Rattle.cc_device.specs.Devices.{Devices}
use Rattle.cc_runs.specs.Links.{entry_store, entry_context, position_of, program_context, program_start}
use Rattle.cc_runs.specs.SafeRuns.{HaveShapes, RunsSafely}

-- The linked store of an entry is typed, cell by cell: each definition has the type of its signature in the context of
-- the cells before it, and a recursive one where its own position has that type too.
abbrev pub LinkedStoresAreTyped : Type 0
LinkedStoresAreTyped = (entry : Entry) → IsEntry entry → HasStoreTyping (entry_store entry) (entry_context entry)

-- Each definition stands at the position of its names, with its signature, and its cell has a value of that type.
abbrev pub DefinitionsAreLinked : Type 0
DefinitionsAreLinked =
    (entry : Entry) → IsEntry entry
    → (module_name name : List ℕ) (definition : Definition)
    → definition_in module_name name (reverse entry.modules) ≡ Some definition
    → (position : ℕ) × (value : Term)
    × (position_of entry module_name name ≡ Some position)
    × (lookup (entry_context entry) position ≡ Some (entry_of definition.signature))
    × (lookup (entry_store entry) position ≡ Some (ValueCell value))
    × HasType (entry_context entry) value definition.signature

-- The definition that is run, applied to unit, has a type, whatever set its parameter has.
abbrev pub EntriesAreTyped : Type 0
EntriesAreTyped =
    (entry : Entry) → IsEntry entry
    → (type : CapturingType) × HasType (program_context entry) (program_start entry).term type

-- declared devices are of the shapes that they are declared with
abbrev pub DeclaredDevicesHaveTheirShapes : Type 0
DeclaredDevicesHaveTheirShapes =
    (declared : List Kind) → HaveShapes (map declared_state declared) (map declared_base declared)

-- The program of an entry runs safely with the entry's authority, on all devices of its shapes and with any fuel.
abbrev pub EntriesRunSafely : Type 0
EntriesRunSafely =
    (entry : Entry) → IsEntry entry → (devices : Devices) → HaveShapes devices entry.devices
    → (fuel : ℕ) → RunsSafely entry.authority (record { configuration = program_start entry; devices = devices }) fuel
