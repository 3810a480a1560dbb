-- Stores: what stands at the positions of a running program, which type each position is declared with, and the devices
-- that a set speaks of.
use Rattle.std.specs.Prelude.{ℕ, Bool, true, false, List, [], ◌∷◌, Option, None, IsTrue, filter, if◌then◌else◌}
use Rattle.std.specs.List.{range_with_len}
use Rattle.cc_base.specs.declared.literal.Base.{Base}
use Rattle.cc_base.specs.declared.literal.Base.TheVariants as bases
use Rattle.cc_capture.specs.declared.var.Var.{Var}
use Rattle.cc_capture.specs.declared.var.Var.TheVariants.{Bound, Free}
use Rattle.cc_capture.specs.declared.var.Elem.TheVariants.{Var as Variable, Cap}
use Rattle.cc_capture.specs.Sets.{Set, contains}
use Rattle.cc_core.specs.Shapes.{Shape, BaseShape, ExitShape, CapturingType}
use Rattle.cc_core.specs.Terms.{Term, FunctionTerm, TypeFunctionTerm}
use Rattle.cc_core.specs.Contexts.{TermEntry, Context, entry_of, lookup}
use Rattle.cc_core.specs.Substitution.{single}
use Rattle.cc_core.specs.WellFormed.{IsWellFormedType, IsWellFormedShape}
use Rattle.cc_core.specs.Captured.{is_value}
use Rattle.cc_core.specs.Typing.{HasType}

-- a cell holds a value, one of the devices, which is of the base shape, or the label of a boundary
pub data Cell : Type 0 where
  ValueCell : (value : Term) → Cell
  DeviceCell : (device : ℕ) (base : Base) → Cell
  LabelCell : (label : ℕ) → Cell

-- a store is the list of its cells, the newest first; a cell's position is the number of cells before it
abbrev pub Store : Type 0
Store = List Cell

-- the cell that a variable stands for
abbrev pub cell_at : Store → Var → Option Cell
cell_at store (Bound index) = None
cell_at store (Free position) = lookup store position

-- the base shapes of devices
abbrev pub is_device_base : Base → Bool
is_device_base bases.Console = true
is_device_base bases.File = true
is_device_base bases.Counter = true
is_device_base bases.Unit = false
is_device_base bases.Bool = false
is_device_base bases.Int = false
is_device_base bases.Str = false

-- functions and type functions, which alone may name themselves
abbrev pub is_function : Term → Bool
is_function (FunctionTerm takes c body) = true
is_function (TypeFunctionTerm bound body) = true
is_function _ = false

-- Store typing: each value has its declared type in the context of the cells before it. A recursive one, which is a
-- function, has it where its own position has it too. Devices and labels have the universal capability.
pub data HasStoreTyping : Store → Context → Type 0 where
  none_stored : HasStoreTyping [] []
  value_stored : {store : Store} {context : Context} {term : Term} {type : CapturingType}
      → HasStoreTyping store context
      → IsTrue (is_value term)
      → HasType context term type
      → HasStoreTyping (ValueCell term ∷ store) (entry_of type ∷ context)
  recursive_stored : {store : Store} {context : Context} {term : Term} {type : CapturingType}
      → HasStoreTyping store context
      → IsTrue (is_function term)
      → IsWellFormedType context type
      → HasType (entry_of type ∷ context) term type
      → HasStoreTyping (ValueCell term ∷ store) (entry_of type ∷ context)
  device_stored : {store : Store} {context : Context} {number : ℕ} {base : Base}
      → HasStoreTyping store context
      → IsTrue (is_device_base base)
      → HasStoreTyping (DeviceCell number base ∷ store) (TermEntry (BaseShape base) (single Cap) ∷ context)
  label_stored : {store : Store} {context : Context} {number : ℕ} {gives : Shape}
      → HasStoreTyping store context
      → IsWellFormedShape context gives
      → HasStoreTyping (LabelCell number ∷ store) (TermEntry (ExitShape gives) (single Cap) ∷ context)

-- whether the set gives leave to use the device: it has the device's position, or the universal capability
abbrev pub is_permitted : Set → ℕ → Bool
is_permitted set position = if contains Cap set then true else contains (Variable (Free position)) set

-- The authority of a set over so many devices, which stand at the first positions: those that it gives leave to use, in
-- the order of their positions.
abbrev pub authority : ℕ → Set → List ℕ
authority devices set = filter (is_permitted set) (range_with_len 0 devices)
