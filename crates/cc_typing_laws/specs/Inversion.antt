-- What follows from the type of a term of each form: the types of its parts, the conditions of its rule, and that the
-- type which the rule gives is below the term's type.
use Rattle.std.specs.Prelude.{◌≡◌, ℕ, zero, length, ◌∷◌, Option, Some, None}
use Rattle.cc_base.specs.declared.literal.Base.{Base}
use Rattle.cc_base.specs.declared.literal.Base.TheVariants as bases
use Rattle.cc_base.specs.declared.literal.Operator.{Operator}
use Rattle.cc_base.specs.declared.literal.Op.{Op}
use Rattle.cc_capture.specs.declared.var.Var.{Var}
use Rattle.cc_capture.specs.declared.var.Var.TheVariants.{Free}
use Rattle.cc_capture.specs.declared.var.Elem.TheVariants.{Cap}
use Rattle.cc_capture.specs.Sets.{Set, empty}
use Rattle.cc_core.specs.Shapes.{Shape, BaseShape, FunctionShape, TypeFunctionShape, BoxShape, ExitShape, CapturingType}
use Rattle.cc_core.specs.Shapes.{capturing}
use Rattle.cc_base.specs.Literals.{Literal}
use Rattle.cc_core.specs.Terms.{Note, Written, Term, VariableTerm, LiteralTerm, FunctionTerm, TypeFunctionTerm, BoxTerm}
use Rattle.cc_core.specs.Terms.{Application, TypeApplication, Unboxing, Let, Primitive, Conditional, Repetition}
use Rattle.cc_core.specs.Terms.{Operation, Boundary, Leave}
use Rattle.cc_core.specs.Contexts.{TermEntry, TypeEntry, Context, lookup}
use Rattle.cc_core.specs.Substitution.{single, replaced_type, replaced_type_by_shape, opened_type, opened_term}
use Rattle.cc_core.specs.Occurrences.{Meets, MeetsInSet, without}
use Rattle.cc_core.specs.WellFormed.{TermKind, TypeKind, IsWellFormedShape, IsWellFormedType, IsWellFormedSet}
use Rattle.cc_core.specs.WellFormed.{IsWellFormedTypeUnder}
use Rattle.cc_core.specs.Captured.{captured_variables, variable_set}
use Rattle.cc_core.specs.Subtyping.{Subtypes, SubtypesType}
use Rattle.cc_core.specs.Typing.{base_of, base_given, base_operated, base_taken, base_answered, IsNoteOf, HasNoCap}
use Rattle.cc_core.specs.Typing.{HasType}

-- A variable is free and declared, and has a type above its declared shape and itself.
abbrev pub VariablesInvert : Type 0
VariablesInvert =
    (context : Context) (variable : Var) (type : CapturingType)
    → HasType context (VariableTerm variable) type
    → (position : ℕ) × (shape : Shape) × (declared : Set)
    × (variable ≡ Free position) × (lookup context position ≡ Some (TermEntry shape declared))
    × SubtypesType context (capturing shape (variable_set variable)) type

-- a literal has a type above its base shape, which captures nothing
abbrev pub LiteralsInvert : Type 0
LiteralsInvert =
    (context : Context) (literal : Literal) (type : CapturingType)
    → HasType context (LiteralTerm literal) type
    → SubtypesType context (capturing (BaseShape (base_of literal)) empty) type

-- The body of a function has a type under the parameter, and the function's type is above what takes the one and gives
-- the other, and captures what the function does.
abbrev pub FunctionBodiesInvert : Type 0
FunctionBodiesInvert =
    (context : Context) (takes : Shape) (c : Set) (body : Term) (type : CapturingType)
    → HasType context (FunctionTerm takes c body) type
    → (gives : CapturingType)
    × IsWellFormedType context (capturing takes c) × IsWellFormedTypeUnder context TermKind gives
    × HasType (TermEntry takes c ∷ context) (opened_term (length context) body) (opened_type (length context) gives)
    × SubtypesType context
    (capturing (FunctionShape takes c gives.shape gives.set) (captured_variables (FunctionTerm takes c body))) type

-- the same of type functions, under the type variable and its bound
abbrev pub TypeFunctionsInvert : Type 0
TypeFunctionsInvert =
    (context : Context) (bound : Shape) (body : Term) (type : CapturingType)
    → HasType context (TypeFunctionTerm bound body) type
    → (gives : CapturingType)
    × IsWellFormedShape context bound × IsWellFormedTypeUnder context TypeKind gives
    × HasType (TypeEntry bound ∷ context) (opened_term (length context) body) (opened_type (length context) gives)
    × SubtypesType context
    (capturing (TypeFunctionShape bound gives.shape gives.set) (captured_variables (TypeFunctionTerm bound body))) type

-- The function takes what the argument is, and the result names the argument where it named the parameter.
abbrev pub ApplicationsInvert : Type 0
ApplicationsInvert =
    (context : Context) (function argument : Var) (type : CapturingType)
    → HasType context (Application function argument) type
    → (takes : Shape) × (c : Set) × (gives : Shape) × (e : Set) × (d : Set)
    × HasType context (VariableTerm function) (capturing (FunctionShape takes c gives e) d)
    × HasType context (VariableTerm argument) (capturing takes c)
    × SubtypesType context (replaced_type argument (capturing gives e)) type

-- The argument is well formed and below the bound, and the result has it where it had the type variable.
abbrev pub TypeApplicationsInvert : Type 0
TypeApplicationsInvert =
    (context : Context) (function : Var) (argument : Shape) (type : CapturingType)
    → HasType context (TypeApplication function argument) type
    → (bound : Shape) × (gives : Shape) × (e : Set) × (d : Set)
    × HasType context (VariableTerm function) (capturing (TypeFunctionShape bound gives e) d)
    × Subtypes context argument bound × IsWellFormedShape context argument
    × SubtypesType context (replaced_type_by_shape argument (capturing gives e)) type

-- The content of a box has a type without the universal capability, and the box's type is above a box of it, which
-- captures nothing.
abbrev pub BoxContentsInvert : Type 0
BoxContentsInvert =
    (context : Context) (content : Var) (type : CapturingType)
    → HasType context (BoxTerm content) type
    → (held : CapturingType) × HasType context (VariableTerm content) held × HasNoCap held.set
    × SubtypesType context (capturing (BoxShape held.shape held.set) empty) type

-- A box is opened under a set that is written, well formed, without the universal capability, and that of its content.
abbrev pub UnboxingsInvert : Type 0
UnboxingsInvert =
    (context : Context) (under : Option Set) (box : Var) (type : CapturingType)
    → HasType context (Unboxing under box) type
    → (shape : Shape) × (c : Set) × (d : Set)
    × (under ≡ Some c) × HasType context (VariableTerm box) (capturing (BoxShape shape c) d)
    × IsWellFormedSet context c × HasNoCap c × SubtypesType context (capturing shape c) type

-- The right side has the type that is written, if one is, and the body has a type, under the variable, that does not
-- name it.
abbrev pub LetsInvert : Type 0
LetsInvert =
    (context : Context) (note : Note) (right body : Term) (type : CapturingType)
    → HasType context (Let note right body) type
    → (bound : CapturingType) × (gives : CapturingType)
    × HasType context right bound × IsNoteOf note bound.shape bound.set
    × HasType (TermEntry bound.shape bound.set ∷ context) (opened_term (length context) body) gives
    × Meets (without (length context)) zero gives.shape × MeetsInSet (without (length context)) zero gives.set
    × IsWellFormedType context gives × SubtypesType context gives type

-- both operands are numbers
abbrev pub PrimitivesInvert : Type 0
PrimitivesInvert =
    (context : Context) (operator : Operator) (left right : Var) (type : CapturingType)
    → HasType context (Primitive operator left right) type
    → (d : Set) × (d' : Set)
    × HasType context (VariableTerm left) (capturing (BaseShape bases.Int) d)
    × HasType context (VariableTerm right) (capturing (BaseShape bases.Int) d')
    × SubtypesType context (capturing (BaseShape (base_given operator)) empty) type

-- Both branches have the type that is written.
abbrev pub ConditionalsInvert : Type 0
ConditionalsInvert =
    (context : Context) (note : Note) (test : Var) (positive negative : Term) (type : CapturingType)
    → HasType context (Conditional note test positive negative) type
    → (gives : CapturingType) × (d : Set)
    × (note ≡ Written gives.shape gives.set) × HasType context (VariableTerm test) (capturing (BaseShape bases.Bool) d)
    × HasType context positive gives × HasType context negative gives × SubtypesType context gives type

-- the count is a number, and the function takes numbers to unit values
abbrev pub RepetitionsInvert : Type 0
RepetitionsInvert =
    (context : Context) (count function : Var) (type : CapturingType)
    → HasType context (Repetition count function) type
    → (d : Set) × (d' : Set)
    × HasType context (VariableTerm count) (capturing (BaseShape bases.Int) d)
    × HasType context (VariableTerm function)
    (capturing (FunctionShape (BaseShape bases.Int) empty (BaseShape bases.Unit) empty) d')
    × SubtypesType context (capturing (BaseShape bases.Unit) empty) type

-- The receiver is a device that the operation is for, and the argument is what the operation takes.
abbrev pub OperationsInvert : Type 0
OperationsInvert =
    (context : Context) (operation : Op) (receiver argument : Var) (type : CapturingType)
    → HasType context (Operation operation receiver (Some argument)) type
    → (taken : Base) × (d : Set) × (d' : Set)
    × HasType context (VariableTerm receiver) (capturing (BaseShape (base_operated operation)) d)
    × (base_taken operation ≡ Some taken) × HasType context (VariableTerm argument) (capturing (BaseShape taken) d')
    × SubtypesType context (capturing (BaseShape (base_answered operation)) empty) type

-- the same of an operation without an argument
abbrev pub OperationsAloneInvert : Type 0
OperationsAloneInvert =
    (context : Context) (operation : Op) (receiver : Var) (type : CapturingType)
    → HasType context (Operation operation receiver None) type
    → (d : Set)
    × HasType context (VariableTerm receiver) (capturing (BaseShape (base_operated operation)) d)
    × (base_taken operation ≡ None)
    × SubtypesType context (capturing (BaseShape (base_answered operation)) empty) type

-- The body has the shape that is written and captures nothing, under an exit of that shape.
abbrev pub BoundariesInvert : Type 0
BoundariesInvert =
    (context : Context) (gives : Shape) (body : Term) (type : CapturingType)
    → HasType context (Boundary gives body) type
    → IsWellFormedShape context gives
    × HasType (TermEntry (ExitShape gives) (single Cap) ∷ context) (opened_term (length context) body)
    (capturing gives empty)
    × SubtypesType context (capturing gives empty) type

-- The value has the exit's shape and captures nothing, and the term has a type above the one that is written.
abbrev pub ExitsInvert : Type 0
ExitsInvert =
    (context : Context) (gives : Shape) (c : Set) (exit value : Var) (type : CapturingType)
    → HasType context (Leave gives c exit value) type
    → (shape : Shape) × (d : Set)
    × HasType context (VariableTerm exit) (capturing (ExitShape shape) d)
    × HasType context (VariableTerm value) (capturing shape empty)
    × IsWellFormedType context (capturing gives c) × SubtypesType context (capturing gives c) type
