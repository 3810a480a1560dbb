-- How a program starts, from its parts: its store, the context of all cells, and what its type says of it.
use Rattle.std.specs.Prelude.{List, [], ◌∷◌, ◌++◌, map, reverse}
use Rattle.cc_base.specs.declared.literal.Base.{Base}
use Rattle.cc_base.specs.declared.literal.Base.TheVariants as bases
use Rattle.cc_base.specs.Literals.{UnitLiteral}
use Rattle.cc_capture.specs.Sets.{empty}
use Rattle.cc_core.specs.declared.terms.Node.{Node}
use Rattle.cc_core.specs.Shapes.{BaseShape, CapturingType}
use Rattle.cc_core.specs.Terms.{Term, LiteralTerm}
use Rattle.cc_core.specs.Contexts.{Bind, TermEntry, Context, entry_of}
use Rattle.cc_core.specs.Programs.{device_context}
use Rattle.cc_core.specs.Stores.{Cell, ValueCell, Store, HasStoreTyping}
use Rattle.cc_core.specs.Typing.{HasType}
use Rattle.cc_core.specs.TermViews.{type_of, term_of}
use Rattle.cc_runs.specs.Links.{device_cells}
use Rattle.cc_runs.specs.Machine.{Configuration, configured}
use Rattle.cc_machine.specs.declared.values.TypedValue.{TypedValue}

-- the cell of a value
abbrev pub value_cell : TypedValue → Cell
value_cell typed = ValueCell (term_of typed.value.value)

-- its entry in the context
abbrev pub value_entry : TypedValue → Bind
value_entry typed = entry_of (type_of typed.ty)

-- the store of devices and values
abbrev pub value_store : List Base → List TypedValue → Store
value_store devices values = map value_cell (reverse values) ++ device_cells (reverse devices)

-- its context
abbrev pub value_context : List Base → List TypedValue → Context
value_context devices values = map value_entry (reverse values) ++ device_context devices

-- the store of a program, which has a cell with unit besides
abbrev pub program_store : List Base → List TypedValue → Store
program_store devices values = ValueCell (LiteralTerm UnitLiteral) ∷ value_store devices values

-- its context
abbrev pub program_context : List Base → List TypedValue → Context
program_context devices values = TermEntry (BaseShape bases.Unit) empty ∷ value_context devices values

-- the start of a program: no frame, no label, and the term
abbrev pub program_start : List Base → List TypedValue → Node → Configuration
program_start devices values term = configured (program_store devices values) [] 0 (term_of term)

-- the store is typed, and the term has a type in its context
pub record IsTypedStart (store : Store) (context : Context) (term : Term) : Type 0 where
  pub stored : HasStoreTyping store context
  pub type : CapturingType
  pub typed : HasType context term type

-- What a program is: each value has its declared type in the context of the cells before it, a recursive one, which is
-- a function, where its own position has that type too; the devices are of device shapes; and the term has a type in
-- the context of all cells.
abbrev pub IsTyped : List Base → List TypedValue → Node → Type 0
IsTyped devices values term =
    IsTypedStart (program_store devices values) (program_context devices values) (term_of term)
