-- The operands that a step looks at.
use Rattle.std.specs.Prelude.{ℕ, Option, Some, None}
use Rattle.cc_capture.specs.declared.var.Var.{Var}
use Rattle.cc_capture.specs.declared.var.Var.TheVariants.{Bound, Free}
use Rattle.cc_core.specs.Terms.{Term, VariableTerm, LiteralTerm, FunctionTerm, TypeFunctionTerm, BoxTerm, Application}
use Rattle.cc_core.specs.Terms.{TypeApplication, Unboxing, Let, Primitive, Conditional, Repetition, Operation, Boundary}
use Rattle.cc_core.specs.Terms.{Leave}
use Rattle.cc_core.specs.Stores.{Cell, ValueCell}

-- the variable is a position
abbrev pub IsFree : Var → Type 0
IsFree (Bound index) = ⊥
IsFree (Free position) = Unit {0}

-- the position, if the variable is one
abbrev pub free_position : Var → Option ℕ
free_position (Bound index) = None
free_position (Free position) = Some position

-- Each variable that the next step hands on is a position: those of the term itself, and of the right side of a let.
abbrev pub HasFreeOperands : Term → Type 0
HasFreeOperands (VariableTerm variable) = IsFree variable
HasFreeOperands (LiteralTerm literal) = Unit {0}
HasFreeOperands (FunctionTerm takes c body) = Unit {0}
HasFreeOperands (TypeFunctionTerm bound body) = Unit {0}
HasFreeOperands (BoxTerm content) = IsFree content
HasFreeOperands (Application function argument) = IsFree argument
HasFreeOperands (TypeApplication function argument) = Unit {0}
HasFreeOperands (Unboxing set box) = Unit {0}
HasFreeOperands (Let note right body) = HasFreeOperands right
HasFreeOperands (Primitive operator left right) = Unit {0}
HasFreeOperands (Conditional note test positive negative) = Unit {0}
HasFreeOperands (Repetition count function) = IsFree function
HasFreeOperands (Operation operation receiver argument) = Unit {0}
HasFreeOperands (Boundary gives body) = Unit {0}
HasFreeOperands (Leave gives c exit value) = IsFree value

-- the content of a box in the cell is a position
abbrev pub HoldsFreeContent : Option Cell → Type 0
HoldsFreeContent (Some (ValueCell (BoxTerm content))) = IsFree content
HoldsFreeContent _ = Unit {0}
