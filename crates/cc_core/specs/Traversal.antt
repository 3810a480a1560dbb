-- One way through shapes and terms, of which opening, substitution, renaming and filling are instances.
use Rattle.std.specs.Prelude.{ℕ, suc}
use Rattle.std.specs.Option.{option_map}
use Rattle.cc_capture.specs.declared.var.Var.{Var}
use Rattle.cc_capture.specs.declared.var.Elem.{Elem}
use Rattle.cc_capture.specs.Sets.{Set, empty, insert, flat_image}
use Rattle.cc_core.specs.Shapes.{Shape, BaseShape, AnyShape, TypeVariable, FunctionShape, TypeFunctionShape, BoxShape}
use Rattle.cc_core.specs.Shapes.{ExitShape, CapturingType, capturing}
use Rattle.cc_core.specs.Terms.{Note, Absent, Written, Own, Term, VariableTerm, LiteralTerm, FunctionTerm}
use Rattle.cc_core.specs.Terms.{TypeFunctionTerm, BoxTerm, Application, TypeApplication, Unboxing, Let, Primitive}
use Rattle.cc_core.specs.Terms.{Conditional, Repetition, Operation, Boundary, Leave}

-- What becomes of an element of a set, of a type variable, and of a variable of a term that stand under so many
-- binders.
pub record Action : Type 0 where
  pub element : ℕ → Elem → Set
  pub shape : ℕ → Var → Shape
  pub variable : ℕ → Var → Var

-- the set of what becomes of the elements
abbrev pub act_set : Action → ℕ → Set → Set
act_set action depth set = flat_image (action.element depth) set

-- The shape in which an action was taken everywhere. What functions and type functions give is under one binder more.
abbrev pub act : Action → ℕ → Shape → Shape
act action depth (BaseShape base) = BaseShape base
act action depth AnyShape = AnyShape
act action depth (TypeVariable variable) = action.shape depth variable
act action depth (FunctionShape takes c gives e) =
    FunctionShape (act action depth takes) (act_set action depth c) (act action (suc depth) gives)
    (act_set action (suc depth) e)
act action depth (TypeFunctionShape bound gives e) =
    TypeFunctionShape (act action depth bound) (act action (suc depth) gives) (act_set action (suc depth) e)
act action depth (BoxShape content c) = BoxShape (act action depth content) (act_set action depth c)
act action depth (ExitShape gives) = ExitShape (act action depth gives)

-- the same of a type
abbrev pub act_type : Action → ℕ → CapturingType → CapturingType
act_type action depth type = capturing (act action depth type.shape) (act_set action depth type.set)

-- the same of what is written for a type
abbrev pub act_note : Action → ℕ → Note → Note
act_note action depth Absent = Absent
act_note action depth (Written shape set) = Written (act action depth shape) (act_set action depth set)
act_note action depth (Own shape) = Own (act action depth shape)

-- The term in which an action was taken everywhere, also in the types that are written in it. The bodies of functions,
-- type functions, lets and boundaries are under one binder more.
abbrev pub act_term : Action → ℕ → Term → Term
act_term action depth (VariableTerm variable) = VariableTerm (action.variable depth variable)
act_term action depth (LiteralTerm literal) = LiteralTerm literal
act_term action depth (FunctionTerm takes c body) =
    FunctionTerm (act action depth takes) (act_set action depth c) (act_term action (suc depth) body)
act_term action depth (TypeFunctionTerm bound body) =
    TypeFunctionTerm (act action depth bound) (act_term action (suc depth) body)
act_term action depth (BoxTerm content) = BoxTerm (action.variable depth content)
act_term action depth (Application function argument) =
    Application (action.variable depth function) (action.variable depth argument)
act_term action depth (TypeApplication function argument) =
    TypeApplication (action.variable depth function) (act action depth argument)
act_term action depth (Unboxing set box) =
    Unboxing (option_map (act_set action depth) set) (action.variable depth box)
act_term action depth (Let note right body) =
    Let (act_note action depth note) (act_term action depth right) (act_term action (suc depth) body)
act_term action depth (Primitive operator left right) =
    Primitive operator (action.variable depth left) (action.variable depth right)
act_term action depth (Conditional note test positive negative) =
    Conditional (act_note action depth note) (action.variable depth test) (act_term action depth positive)
    (act_term action depth negative)
act_term action depth (Repetition count function) =
    Repetition (action.variable depth count) (action.variable depth function)
act_term action depth (Operation operation receiver argument) =
    Operation operation (action.variable depth receiver) (option_map (action.variable depth) argument)
act_term action depth (Boundary gives body) = Boundary (act action depth gives) (act_term action (suc depth) body)
act_term action depth (Leave gives c exit value) =
    Leave (act action depth gives) (act_set action depth c) (action.variable depth exit) (action.variable depth value)

-- the action that leaves all as it is
abbrev pub keeping : Action
keeping = record {
  element = λ depth e. insert e empty;
  shape = λ depth variable. TypeVariable variable;
  variable = λ depth variable. variable;
}

-- the action that takes the second of two actions first, and then the first
abbrev pub composed : Action → Action → Action
composed later earlier = record {
  element = λ depth e. act_set later depth (earlier.element depth e);
  shape = λ depth variable. act later depth (earlier.shape depth variable);
  variable = λ depth variable. later.variable depth (earlier.variable depth variable);
}

-- the action as it acts on what stands under one binder more
abbrev pub shifted : Action → Action
shifted action = record {
  element = λ depth e. action.element (suc depth) e;
  shape = λ depth variable. action.shape (suc depth) variable;
  variable = λ depth variable. action.variable (suc depth) variable;
}
