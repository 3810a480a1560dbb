-- Typing, as CC<:□ has it, with literals, operators, choices, repetitions, operations of devices, boundaries and exits
-- besides.
use Rattle.std.specs.Prelude.{◌≡◌, ℕ, zero, length, ◌∷◌, Option, Some, None}
use Rattle.cc_base.specs.declared.literal.Base.{Base}
use Rattle.cc_base.specs.declared.literal.Base.TheVariants as bases
use Rattle.cc_base.specs.declared.literal.Operator.{Operator}
use Rattle.cc_base.specs.declared.literal.Operator.TheVariants as operators
use Rattle.cc_base.specs.declared.literal.Op.{Op}
use Rattle.cc_base.specs.declared.literal.Op.TheVariants as operations
use Rattle.cc_capture.specs.declared.var.Var.{Var}
use Rattle.cc_capture.specs.declared.var.Var.TheVariants.{Free}
use Rattle.cc_capture.specs.declared.var.Elem.TheVariants.{Cap}
use Rattle.cc_capture.specs.Sets.{Set, Member, empty}
use Rattle.cc_core.specs.Shapes.{Shape, BaseShape, FunctionShape, TypeFunctionShape, BoxShape, ExitShape, CapturingType}
use Rattle.cc_core.specs.Shapes.{capturing}
use Rattle.cc_base.specs.Literals.{Literal, UnitLiteral, TruthLiteral, NumberLiteral, TextLiteral}
use Rattle.cc_core.specs.Terms.{Note, Absent, Written, Own, Term, VariableTerm, LiteralTerm, FunctionTerm}
use Rattle.cc_core.specs.Terms.{TypeFunctionTerm, BoxTerm, Application, TypeApplication, Unboxing, Let, Primitive}
use Rattle.cc_core.specs.Terms.{Conditional, Repetition, Operation, Boundary, Leave}
use Rattle.cc_core.specs.Contexts.{TermEntry, TypeEntry, Context, lookup}
use Rattle.cc_core.specs.Traversal.{act, act_set}
use Rattle.cc_core.specs.Substitution.{single, putting, putting_shape, opened_term, closed, closed_set}
use Rattle.cc_core.specs.Occurrences.{Meets, MeetsInSet, without}
use Rattle.cc_core.specs.WellFormed.{IsWellFormedContext, IsWellFormedTerm, IsWellFormedType, IsWellFormedShape}
use Rattle.cc_core.specs.WellFormed.{IsWellFormedSet}
use Rattle.cc_core.specs.Captured.{captured_variables, variable_set}
use Rattle.cc_core.specs.Subcapturing.{SubcapturesSet}
use Rattle.cc_core.specs.Subtyping.{Subtypes}

-- the base shape of a literal
abbrev pub base_of : Literal → Base
base_of UnitLiteral = bases.Unit
base_of (TruthLiteral truth) = bases.Bool
base_of (NumberLiteral number) = bases.Int
base_of (TextLiteral text) = bases.Str

-- the base shape of what an operator on two numbers gives
abbrev pub base_given : Operator → Base
base_given operators.Add = bases.Int
base_given operators.Sub = bases.Int
base_given operators.Mul = bases.Int
base_given operators.Less = bases.Bool
base_given operators.Equal = bases.Bool

-- the base shape of the devices that an operation is for
abbrev pub base_operated : Op → Base
base_operated operations.Print = bases.Console
base_operated operations.Say = bases.Console
base_operated operations.Read = bases.File
base_operated operations.Write = bases.File
base_operated operations.Tick = bases.Counter

-- the base shape of an operation's argument, if it takes one
abbrev pub base_taken : Op → Option Base
base_taken operations.Print = Some bases.Int
base_taken operations.Say = Some bases.Str
base_taken operations.Read = None
base_taken operations.Write = Some bases.Int
base_taken operations.Tick = None

-- the base shape of an operation's answer
abbrev pub base_answered : Op → Base
base_answered operations.Print = bases.Unit
base_answered operations.Say = bases.Unit
base_answered operations.Read = bases.Int
base_answered operations.Write = bases.Unit
base_answered operations.Tick = bases.Int

-- what is written for a type, if anything is, is the type of the shape and the set
abbrev pub IsNoteOf : Note → Shape → Set → Type 0
IsNoteOf Absent shape set = Unit {0}
IsNoteOf (Written written written_set) shape set = (written ≡ shape) × (written_set ≡ set)
IsNoteOf (Own written) shape set = ⊥

-- the universal capability is not in the set
abbrev pub HasNoCap : Set → Type 0
HasNoCap set = Member Cap set → ⊥

-- The term has the type of the shape and the set. Under a binder the rules use the position that comes next in the
-- context, and a function keeps its body's type with that position closed again, so that it stays free nowhere.
pub data HasTyping : Context → Term → Shape → Set → Type 0 where
  -- a variable has its declared shape, and captures itself
  t-var : {context : Context} {position : ℕ} {shape : Shape} {declared : Set}
      → lookup context position ≡ Some (TermEntry shape declared)
      → HasTyping context (VariableTerm (Free position)) shape (variable_set (Free position))
  t-lit : {context : Context} {literal : Literal}
      → HasTyping context (LiteralTerm literal) (BaseShape (base_of literal)) empty
  -- a function captures what its body does
  t-abs : {context : Context} {takes gives : Shape} {c e : Set} {body : Term}
      → IsWellFormedType context (capturing takes c)
      → HasTyping (TermEntry takes c ∷ context) (opened_term (length context) body) gives e
      → HasTyping context (FunctionTerm takes c body)
      (FunctionShape takes c (closed (length context) gives) (closed_set (length context) e))
      (captured_variables (FunctionTerm takes c body))
  t-tabs : {context : Context} {bound gives : Shape} {e : Set} {body : Term}
      → IsWellFormedShape context bound
      → HasTyping (TypeEntry bound ∷ context) (opened_term (length context) body) gives e
      → HasTyping context (TypeFunctionTerm bound body)
      (TypeFunctionShape bound (closed (length context) gives) (closed_set (length context) e))
      (captured_variables (TypeFunctionTerm bound body))
  -- the result names the argument where it named the parameter
  t-app : {context : Context} {function argument : Var} {takes gives : Shape} {c d e : Set}
      → HasTyping context (VariableTerm function) (FunctionShape takes c gives e) d
      → HasTyping context (VariableTerm argument) takes c
      → HasTyping context (Application function argument) (act (putting argument) zero gives)
      (act_set (putting argument) zero e)
  t-tapp : {context : Context} {function : Var} {bound gives argument : Shape} {d e : Set}
      → HasTyping context (VariableTerm function) (TypeFunctionShape bound gives e) d
      → Subtypes context argument bound
      → IsWellFormedShape context argument
      → HasTyping context (TypeApplication function argument) (act (putting_shape argument) zero gives)
      (act_set (putting_shape argument) zero e)
  -- a box captures nothing, and what it holds has no universal capability
  t-box : {context : Context} {content : Var} {shape : Shape} {c : Set}
      → HasTyping context (VariableTerm content) shape c
      → HasNoCap c
      → HasTyping context (BoxTerm content) (BoxShape shape c) empty
  -- a box is opened under its set, which is then captured
  t-unbox : {context : Context} {box : Var} {shape : Shape} {c d : Set}
      → HasTyping context (VariableTerm box) (BoxShape shape c) d
      → IsWellFormedSet context c
      → HasNoCap c
      → HasTyping context (Unboxing (Some c) box) shape c
  -- the type of the body does not name the variable
  t-let : {context : Context} {note : Note} {right body : Term} {bound shape : Shape} {c e : Set}
      → HasTyping context right bound c
      → IsNoteOf note bound c
      → HasTyping (TermEntry bound c ∷ context) (opened_term (length context) body) shape e
      → Meets (without (length context)) zero shape
      → MeetsInSet (without (length context)) zero e
      → HasTyping context (Let note right body) shape e
  t-prim : {context : Context} {operator : Operator} {left right : Var} {d d' : Set}
      → HasTyping context (VariableTerm left) (BaseShape bases.Int) d
      → HasTyping context (VariableTerm right) (BaseShape bases.Int) d'
      → HasTyping context (Primitive operator left right) (BaseShape (base_given operator)) empty
  t-if : {context : Context} {test : Var} {positive negative : Term} {shape : Shape} {c d : Set}
      → HasTyping context (VariableTerm test) (BaseShape bases.Bool) d
      → HasTyping context positive shape c
      → HasTyping context negative shape c
      → HasTyping context (Conditional (Written shape c) test positive negative) shape c
  t-repeat : {context : Context} {count function : Var} {d d' : Set}
      → HasTyping context (VariableTerm count) (BaseShape bases.Int) d
      → HasTyping context (VariableTerm function)
      (FunctionShape (BaseShape bases.Int) empty (BaseShape bases.Unit) empty) d'
      → HasTyping context (Repetition count function) (BaseShape bases.Unit) empty
  -- an operation with an argument
  t-op : {context : Context} {operation : Op} {receiver argument : Var} {taken : Base} {d d' : Set}
      → HasTyping context (VariableTerm receiver) (BaseShape (base_operated operation)) d
      → base_taken operation ≡ Some taken
      → HasTyping context (VariableTerm argument) (BaseShape taken) d'
      → HasTyping context (Operation operation receiver (Some argument)) (BaseShape (base_answered operation)) empty
  -- an operation without one
  t-op-alone : {context : Context} {operation : Op} {receiver : Var} {d : Set}
      → HasTyping context (VariableTerm receiver) (BaseShape (base_operated operation)) d
      → base_taken operation ≡ None
      → HasTyping context (Operation operation receiver None) (BaseShape (base_answered operation)) empty
  -- what leaves a boundary captures nothing
  t-boundary : {context : Context} {gives : Shape} {body : Term}
      → IsWellFormedShape context gives
      → HasTyping (TermEntry (ExitShape gives) (single Cap) ∷ context) (opened_term (length context) body) gives empty
      → HasTyping context (Boundary gives body) gives empty
  -- an exit takes a value that captures nothing, and has whatever type is written
  t-exit : {context : Context} {exit value : Var} {gives shape : Shape} {c d : Set}
      → HasTyping context (VariableTerm exit) (ExitShape shape) d
      → HasTyping context (VariableTerm value) shape empty
      → IsWellFormedType context (capturing gives c)
      → HasTyping context (Leave gives c exit value) gives c
  t-sub : {context : Context} {term : Term} {shape shape' : Shape} {c c' : Set}
      → HasTyping context term shape c
      → SubcapturesSet context c c'
      → Subtypes context shape shape'
      → IsWellFormedType context (capturing shape' c')
      → HasTyping context term shape' c'

-- The well-formed term has the well-formed type in the well-formed context.
pub record HasType (context : Context) (term : Term) (type : CapturingType) : Type 0 where
  pub context_formed : IsWellFormedContext context
  pub term_formed : IsWellFormedTerm context term
  pub type_formed : IsWellFormedType context type
  pub typing : HasTyping context term type.shape type.set
