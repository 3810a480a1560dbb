-- Terms, as plain trees without places.
use Rattle.std.specs.Prelude.{Option}
use Rattle.cc_base.specs.Literals.{Literal}
use Rattle.cc_base.specs.declared.literal.Operator.{Operator}
use Rattle.cc_base.specs.declared.literal.Op.{Op}
use Rattle.cc_capture.specs.declared.var.Var.{Var}
use Rattle.cc_capture.specs.Sets.{Set}
use Rattle.cc_core.specs.Shapes.{Shape}

-- what is written for the type of a term: nothing, a type, or a shape alone, where the set is the term's own
pub data Note : Type 0 where
  Absent : Note
  Written : (shape : Shape) (set : Set) → Note
  Own : (shape : Shape) → Note

-- Terms in monadic normal form, as CC<:□ has them, where heads and operands are variables; with literals, operators,
-- choices, repetitions, operations of devices and boundaries besides. The bodies of functions, type functions, lets and
-- boundaries stand under a binder, which is their index 0.
pub data Term : Type 0 where
  VariableTerm : (variable : Var) → Term
  LiteralTerm : (literal : Literal) → Term
  FunctionTerm : (takes : Shape) (takes_set : Set) (body : Term) → Term
  TypeFunctionTerm : (bound : Shape) (body : Term) → Term
  BoxTerm : (content : Var) → Term
  Application : (function : Var) (argument : Var) → Term
  TypeApplication : (function : Var) (argument : Shape) → Term
  Unboxing : (set : Option Set) (box : Var) → Term
  Let : (note : Note) (right : Term) (body : Term) → Term
  Primitive : (operator : Operator) (left : Var) (right : Var) → Term
  Conditional : (note : Note) (test : Var) (positive : Term) (negative : Term) → Term
  Repetition : (count : Var) (function : Var) → Term
  Operation : (operation : Op) (receiver : Var) (argument : Option Var) → Term
  Boundary : (gives : Shape) (body : Term) → Term
  Leave : (gives : Shape) (gives_set : Set) (exit : Var) (value : Var) → Term
