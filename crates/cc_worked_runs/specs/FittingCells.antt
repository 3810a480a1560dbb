-- What a term looks for in the store and on the stack. Its step is stuck exactly where it does not find that.
use Rattle.std.specs.Prelude.{◌≡◌, ◌≢◌, ◌↔◌, ℕ, ℤ, Bool, List, ◌∷◌, ◌++◌, Option, Some, None}
use Rattle.cc_base.specs.declared.literal.Base.{Base}
use Rattle.cc_base.specs.declared.literal.Base.TheVariants as bases
use Rattle.cc_base.specs.declared.literal.Op.{Op}
use Rattle.cc_base.specs.declared.literal.Op.TheVariants as operations
use Rattle.cc_base.specs.Literals.{TruthLiteral, NumberLiteral, TextLiteral}
use Rattle.cc_capture.specs.declared.var.Var.{Var}
use Rattle.cc_capture.specs.Sets.{Set}
use Rattle.cc_core.specs.Shapes.{Shape}
use Rattle.cc_core.specs.Stores.{Cell, ValueCell, DeviceCell, LabelCell, Store, cell_at}
use Rattle.cc_core.specs.Terms.{Term, VariableTerm, LiteralTerm, FunctionTerm, TypeFunctionTerm, BoxTerm, Application}
use Rattle.cc_core.specs.Terms.{TypeApplication, Unboxing, Let, Primitive, Conditional, Repetition, Operation, Boundary}
use Rattle.cc_core.specs.Terms.{Leave}
use Rattle.cc_runs.specs.Machine.{ScopeFrame, Stack, configured, Stuck, step}

-- what stands in a cell, if there is one: a function, a type function, a box, or a literal of one kind
abbrev pub HoldsFunction : Option Cell → Type 0
HoldsFunction cell =
    (takes : Shape) × (takes_set : Set) × (body : Term) × (cell ≡ Some (ValueCell (FunctionTerm takes takes_set body)))

abbrev pub HoldsTypeFunction : Option Cell → Type 0
HoldsTypeFunction cell = (bound : Shape) × (body : Term) × (cell ≡ Some (ValueCell (TypeFunctionTerm bound body)))

abbrev pub HoldsBox : Option Cell → Type 0
HoldsBox cell = (content : Var) × (cell ≡ Some (ValueCell (BoxTerm content)))

abbrev pub HoldsTruth : Option Cell → Type 0
HoldsTruth cell = (truth : Bool) × (cell ≡ Some (ValueCell (LiteralTerm (TruthLiteral truth))))

abbrev pub HoldsNumber : Option Cell → Type 0
HoldsNumber cell = (number : ℤ) × (cell ≡ Some (ValueCell (LiteralTerm (NumberLiteral number))))

abbrev pub HoldsText : Option Cell → Type 0
HoldsText cell = (text : List ℕ) × (cell ≡ Some (ValueCell (LiteralTerm (TextLiteral text))))

-- or a device of the base shape
abbrev pub HoldsDevice : Base → Option Cell → Type 0
HoldsDevice base cell = (device : ℕ) × (cell ≡ Some (DeviceCell device base))

-- a scope of the label is among the frames
abbrev pub HasScope : ℕ → Stack → Type 0
HasScope label stack = (above : Stack) × (below : Stack) × (stack ≡ above ++ ScopeFrame label ∷ below)

-- or the label of a boundary whose scope is on the stack
abbrev pub HoldsExit : Stack → Option Cell → Type 0
HoldsExit stack cell = (label : ℕ) × (cell ≡ Some (LabelCell label)) × HasScope label stack

-- there is an argument, and its cell holds this
abbrev pub HasArgument : Store → (Option Cell → Type 0) → Option Var → Type 0
HasArgument store Holds argument = (variable : Var) × (argument ≡ Some variable) × Holds (cell_at store variable)

-- The receiver of an operation is a device that has it, and the argument is what it takes: consoles print numbers and
-- say texts, files are read and get numbers written, and counters tick.
abbrev pub CanOperate : Store → Op → Var → Option Var → Type 0
CanOperate store operations.Print receiver argument =
    HoldsDevice bases.Console (cell_at store receiver) × HasArgument store HoldsNumber argument
CanOperate store operations.Say receiver argument =
    HoldsDevice bases.Console (cell_at store receiver) × HasArgument store HoldsText argument
CanOperate store operations.Read receiver argument =
    HoldsDevice bases.File (cell_at store receiver) × (argument ≡ None)
CanOperate store operations.Write receiver argument =
    HoldsDevice bases.File (cell_at store receiver) × HasArgument store HoldsNumber argument
CanOperate store operations.Tick receiver argument =
    HoldsDevice bases.Counter (cell_at store receiver) × (argument ≡ None)

-- What each term looks for. Answers, lets and boundaries look for nothing.
abbrev pub FindsWhatItNeeds : Store → Stack → Term → Type 0
FindsWhatItNeeds store stack (VariableTerm variable) = Unit {0}
FindsWhatItNeeds store stack (LiteralTerm literal) = Unit {0}
FindsWhatItNeeds store stack (FunctionTerm takes takes_set body) = Unit {0}
FindsWhatItNeeds store stack (TypeFunctionTerm bound body) = Unit {0}
FindsWhatItNeeds store stack (BoxTerm content) = Unit {0}
FindsWhatItNeeds store stack (Application function argument) = HoldsFunction (cell_at store function)
FindsWhatItNeeds store stack (TypeApplication function argument) = HoldsTypeFunction (cell_at store function)
FindsWhatItNeeds store stack (Unboxing set box) = HoldsBox (cell_at store box)
FindsWhatItNeeds store stack (Let note right body) = Unit {0}
FindsWhatItNeeds store stack (Primitive operator left right) =
    HoldsNumber (cell_at store left) × HoldsNumber (cell_at store right)
FindsWhatItNeeds store stack (Conditional note test positive negative) = HoldsTruth (cell_at store test)
FindsWhatItNeeds store stack (Repetition count function) = HoldsNumber (cell_at store count)
FindsWhatItNeeds store stack (Operation operation receiver argument) = CanOperate store operation receiver argument
FindsWhatItNeeds store stack (Boundary gives body) = Unit {0}
FindsWhatItNeeds store stack (Leave gives gives_set exit value) = HoldsExit stack (cell_at store exit)

-- a term is not stuck exactly where it finds what it needs, on every store and stack
abbrev pub StuckTermsLackWhatTheyNeed : Type 0
StuckTermsLackWhatTheyNeed =
    (store : Store) (stack : Stack) (labels : ℕ) (term : Term)
    → (step (configured store stack labels term) ≢ Stuck) ↔ FindsWhatItNeeds store stack term
