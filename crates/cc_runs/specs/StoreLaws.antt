-- What a typed store holds, and what sets reach through it.
use Rattle.std.specs.Prelude.{◌≡◌, ℕ, Bool, true, false, Option, Some}
use Rattle.cc_base.specs.declared.literal.Base.{Base}
use Rattle.cc_capture.specs.declared.var.Var.{Var}
use Rattle.cc_capture.specs.Sets.{Set}
use Rattle.cc_core.specs.Shapes.{Shape, BaseShape, AnyShape, TypeVariable, FunctionShape, TypeFunctionShape, BoxShape}
use Rattle.cc_core.specs.Shapes.{ExitShape, capturing}
use Rattle.cc_base.specs.Literals.{Literal}
use Rattle.cc_core.specs.Terms.{Term, VariableTerm, LiteralTerm, FunctionTerm, TypeFunctionTerm, BoxTerm}
use Rattle.cc_core.specs.Contexts.{TermEntry, Context, lookup}
use Rattle.cc_core.specs.Subcapturing.{SubcapturesSet}
use Rattle.cc_core.specs.Typing.{base_of, HasNoCap, HasType}
use Rattle.cc_core.specs.Stores.{Cell, ValueCell, DeviceCell, LabelCell, Store, cell_at, is_device_base, HasStoreTyping}
use Rattle.cc_runs.specs.Reach.{Reaches, SetReaches}

-- a literal of the base shape
abbrev pub HoldsLiteral : Option Cell → Base → Type 0
HoldsLiteral cell base =
    (literal : Literal) × (cell ≡ Some (ValueCell (LiteralTerm literal))) × (base_of literal ≡ base)

-- one of the devices, of the base shape
abbrev pub HoldsDevice : Option Cell → Base → Type 0
HoldsDevice cell base = (device : ℕ) × (cell ≡ Some (DeviceCell device base))

-- a device where the base shape is one of devices, and a literal where it is not
abbrev pub HoldsBase : Bool → Option Cell → Base → Type 0
HoldsBase true cell base = HoldsDevice cell base
HoldsBase false cell base = HoldsLiteral cell base

-- What stands in a cell of the shape: a literal or a device, by the base shape; a function; a type function, with just
-- that bound; a box, whose content has the type of the content; the label of a boundary; and in a cell of the shape Any
-- whatever it is. No cell is of the shape of a type variable, since a store has no types.
abbrev pub Holds : Context → Option Cell → Shape → Type 0
Holds context cell (BaseShape base) = HoldsBase (is_device_base base) cell base
Holds context cell AnyShape = (held : Cell) × (cell ≡ Some held)
Holds context cell (TypeVariable variable) = ⊥
Holds context cell (FunctionShape takes c gives e) =
    (own : Shape) × (own_set : Set) × (body : Term) × (cell ≡ Some (ValueCell (FunctionTerm own own_set body)))
Holds context cell (TypeFunctionShape bound gives e) =
    (body : Term) × (cell ≡ Some (ValueCell (TypeFunctionTerm bound body)))
Holds context cell (BoxShape content c) =
    (held : Var) × (cell ≡ Some (ValueCell (BoxTerm held)))
    × HasType context (VariableTerm held) (capturing content c)
Holds context cell (ExitShape gives) = (label : ℕ) × (cell ≡ Some (LabelCell label))

-- In a typed store the cell of a variable holds what its shape says.
abbrev pub CellsHoldTheirShapes : Type 0
CellsHoldTheirShapes =
    (store : Store) (context : Context) (variable : Var) (shape : Shape) (set : Set)
    → HasStoreTyping store context
    → HasType context (VariableTerm variable) (capturing shape set)
    → Holds context (cell_at store variable) shape

-- A value in a typed store has the type that its position is declared with, in the context of all cells.
abbrev pub ValuesHaveTheirTypes : Type 0
ValuesHaveTheirTypes =
    (store : Store) (context : Context) (position : ℕ) (value : Term) (shape : Shape) (set : Set)
    → HasStoreTyping store context
    → lookup store position ≡ Some (ValueCell value)
    → lookup context position ≡ Some (TermEntry shape set)
    → HasType context value (capturing shape set)

-- A declared set without the universal capability reaches all that its cell reaches, which may name itself.
abbrev pub DeclaredSetsReach : Type 0
DeclaredSetsReach =
    (store : Store) (context : Context) (position : ℕ) (shape : Shape) (set : Set) (cell : Cell)
    → HasStoreTyping store context
    → lookup context position ≡ Some (TermEntry shape set)
    → HasNoCap set
    → Reaches store position cell
    → SetReaches store set cell

-- A set without the universal capability reaches all that a set below it reaches.
abbrev pub SetsReachWhatIsBelow : Type 0
SetsReachWhatIsBelow =
    (store : Store) (context : Context) (lower upper : Set) (cell : Cell)
    → HasStoreTyping store context
    → SubcapturesSet context lower upper
    → HasNoCap upper
    → SetReaches store lower cell
    → SetReaches store upper cell
