-- What holds of each variable and each element that occurs in a shape or a term.
use Rattle.std.specs.Prelude.{◌≡◌, ◌≢◌, ℕ, zero, suc, ◌+◌, ◌<◌, Option, Some, None}
use Rattle.cc_capture.specs.declared.var.Var.{Var}
use Rattle.cc_capture.specs.declared.var.Var.TheVariants.{Bound, Free}
use Rattle.cc_capture.specs.declared.var.Elem.{Elem}
use Rattle.cc_capture.specs.declared.var.Elem.TheVariants.{Var as Variable, Cap, Hole}
use Rattle.cc_capture.specs.Sets.{Set, Member}
use Rattle.cc_core.specs.Shapes.{Shape, BaseShape, AnyShape, TypeVariable, FunctionShape, TypeFunctionShape, BoxShape}
use Rattle.cc_core.specs.Shapes.{ExitShape, CapturingType}
use Rattle.cc_core.specs.Traversal.{Action}
use Rattle.cc_core.specs.Terms.{Note, Absent, Written, Own, Term, VariableTerm, LiteralTerm, FunctionTerm}
use Rattle.cc_core.specs.Terms.{TypeFunctionTerm, BoxTerm, Application, TypeApplication, Unboxing, Let, Primitive}
use Rattle.cc_core.specs.Terms.{Conditional, Repetition, Operation, Boundary, Leave}

-- What is asked of an element of a set, of a type variable, and of a variable of a term that stand under so many
-- binders.
pub record Condition : Type 1 where
  pub element : ℕ → Elem → Type 0
  pub shape : ℕ → Var → Type 0
  pub variable : ℕ → Var → Type 0

-- each element of the set meets the condition
abbrev pub MeetsInSet : Condition → ℕ → Set → Type 0
MeetsInSet condition depth set = (e : Elem) → Member e set → condition.element depth e

-- each element and each type variable meets the condition
abbrev pub Meets : Condition → ℕ → Shape → Type 0
Meets condition depth (BaseShape base) = Unit {0}
Meets condition depth AnyShape = Unit {0}
Meets condition depth (TypeVariable variable) = condition.shape depth variable
Meets condition depth (FunctionShape takes c gives e) =
    Meets condition depth takes × MeetsInSet condition depth c × Meets condition (suc depth) gives
    × MeetsInSet condition (suc depth) e
Meets condition depth (TypeFunctionShape bound gives e) =
    Meets condition depth bound × Meets condition (suc depth) gives × MeetsInSet condition (suc depth) e
Meets condition depth (BoxShape content c) = Meets condition depth content × MeetsInSet condition depth c
Meets condition depth (ExitShape gives) = Meets condition depth gives

-- the same of a type
abbrev pub MeetsInType : Condition → ℕ → CapturingType → Type 0
MeetsInType condition depth type = Meets condition depth type.shape × MeetsInSet condition depth type.set

-- the same of what is written for a type
abbrev pub MeetsInNote : Condition → ℕ → Note → Type 0
MeetsInNote condition depth Absent = Unit {0}
MeetsInNote condition depth (Written shape set) = Meets condition depth shape × MeetsInSet condition depth set
MeetsInNote condition depth (Own shape) = Meets condition depth shape

-- the same of a set that may be omitted
abbrev pub MeetsInOptionalSet : Condition → ℕ → Option Set → Type 0
MeetsInOptionalSet condition depth None = Unit {0}
MeetsInOptionalSet condition depth (Some set) = MeetsInSet condition depth set

-- an argument, where there is one, meets the condition
abbrev pub MeetsAtOptional : Condition → ℕ → Option Var → Type 0
MeetsAtOptional condition depth None = Unit {0}
MeetsAtOptional condition depth (Some variable) = condition.variable depth variable

-- each variable meets the condition, and each element and each type variable of what is written in the term
abbrev pub MeetsInTerm : Condition → ℕ → Term → Type 0
MeetsInTerm condition depth (VariableTerm variable) = condition.variable depth variable
MeetsInTerm condition depth (LiteralTerm literal) = Unit {0}
MeetsInTerm condition depth (FunctionTerm takes c body) =
    Meets condition depth takes × MeetsInSet condition depth c × MeetsInTerm condition (suc depth) body
MeetsInTerm condition depth (TypeFunctionTerm bound body) =
    Meets condition depth bound × MeetsInTerm condition (suc depth) body
MeetsInTerm condition depth (BoxTerm content) = condition.variable depth content
MeetsInTerm condition depth (Application function argument) =
    condition.variable depth function × condition.variable depth argument
MeetsInTerm condition depth (TypeApplication function argument) =
    condition.variable depth function × Meets condition depth argument
MeetsInTerm condition depth (Unboxing set box) = MeetsInOptionalSet condition depth set × condition.variable depth box
MeetsInTerm condition depth (Let note right body) =
    MeetsInNote condition depth note × MeetsInTerm condition depth right × MeetsInTerm condition (suc depth) body
MeetsInTerm condition depth (Primitive operator left right) =
    condition.variable depth left × condition.variable depth right
MeetsInTerm condition depth (Conditional note test positive negative) =
    MeetsInNote condition depth note × condition.variable depth test × MeetsInTerm condition depth positive
    × MeetsInTerm condition depth negative
MeetsInTerm condition depth (Repetition count function) =
    condition.variable depth count × condition.variable depth function
MeetsInTerm condition depth (Operation operation receiver argument) =
    condition.variable depth receiver × MeetsAtOptional condition depth argument
MeetsInTerm condition depth (Boundary gives body) =
    Meets condition depth gives × MeetsInTerm condition (suc depth) body
MeetsInTerm condition depth (Leave gives c exit value) =
    Meets condition depth gives × MeetsInSet condition depth c × condition.variable depth exit
    × condition.variable depth value

-- what is said of variables, asked of an element that is one
abbrev pub IsAskedOf : (Var → Type 0) → Elem → Type 0
IsAskedOf asked (Variable variable) = asked variable
IsAskedOf asked Cap = Unit {0}
IsAskedOf asked (Hole number) = Unit {0}

-- the condition on each variable, wherever it stands
abbrev pub on_variables : (ℕ → Var → Type 0) → Condition
on_variables asked = record { element = λ depth e. IsAskedOf (asked depth) e; shape = asked; variable = asked }

-- the position does not occur
abbrev pub without : ℕ → Condition
without position = on_variables (λ depth variable. variable ≢ Free position)

-- an element is no hole
abbrev pub IsNoHole : Elem → Type 0
IsNoHole (Variable variable) = Unit {0}
IsNoHole Cap = Unit {0}
IsNoHole (Hole number) = ⊥

-- no element is a hole
abbrev pub without_holes : Condition
without_holes = record {
  element = λ depth e. IsNoHole e;
  shape = λ depth variable. Unit {0};
  variable = λ depth variable. Unit {0};
}

-- no hole is a member of the set
abbrev pub HasNoHoleInSet : Set → Type 0
HasNoHoleInSet = MeetsInSet without_holes zero

-- no set in the shape has a hole
abbrev pub HasNoHole : Shape → Type 0
HasNoHole = Meets without_holes zero

-- the same of a type
abbrev pub HasNoHoleInType : CapturingType → Type 0
HasNoHoleInType = MeetsInType without_holes zero

-- the same of a term
abbrev pub HasNoHoleInTerm : Term → Type 0
HasNoHoleInTerm = MeetsInTerm without_holes zero

-- an index is below the count of binders
abbrev pub HasBinder : ℕ → Var → Type 0
HasBinder count (Bound index) = index < count
HasBinder count (Free position) = Unit {0}

-- each index counts a binder inside, or one of so many outside; where there are none outside, no index is open
abbrev pub bound_within : ℕ → Condition
bound_within outside = on_variables (λ depth variable. HasBinder (depth + outside) variable)

-- a free position is below the limit
abbrev pub IsPositionBelow : ℕ → Var → Type 0
IsPositionBelow limit (Bound index) = Unit {0}
IsPositionBelow limit (Free position) = position < limit

-- each free position is below the limit
abbrev pub positions_below : ℕ → Condition
positions_below limit = on_variables (λ depth variable. IsPositionBelow limit variable)

-- each free position is below the limit, and the outermost index stands at type variables alone
abbrev pub under_type_binder : ℕ → Condition
under_type_binder limit = record {
  element = λ depth e. IsAskedOf (λ variable. IsPositionBelow limit variable × (variable ≢ Bound depth)) e;
  shape = λ depth variable. IsPositionBelow limit variable;
  variable = λ depth variable. IsPositionBelow limit variable × (variable ≢ Bound depth);
}

-- two actions do the same
abbrev pub agreement : Action → Action → Condition
agreement one other = record {
  element = λ depth e. one.element depth e ≡ other.element depth e;
  shape = λ depth variable. one.shape depth variable ≡ other.shape depth variable;
  variable = λ depth variable. one.variable depth variable ≡ other.variable depth variable;
}

-- no type variable has the outermost index
abbrev pub no_outermost_type : Condition
no_outermost_type = record {
  element = λ depth e. Unit {0};
  shape = λ depth variable. variable ≢ Bound depth;
  variable = λ depth variable. Unit {0};
}

-- each free position is below the limit, and the outermost index stands at no type variable
abbrev pub under_term_binder : ℕ → Condition
under_term_binder limit = record {
  element = λ depth e. IsAskedOf (IsPositionBelow limit) e;
  shape = λ depth variable. IsPositionBelow limit variable × (variable ≢ Bound depth);
  variable = λ depth variable. IsPositionBelow limit variable;
}
