-- Heights of shapes and terms.
use Rattle.std.specs.Prelude.{ℕ, suc, max}
use Rattle.cc_core.specs.Shapes.{Shape, BaseShape, AnyShape, TypeVariable, FunctionShape, TypeFunctionShape, BoxShape}
use Rattle.cc_core.specs.Shapes.{ExitShape}
use Rattle.cc_core.specs.Terms.{Note, Absent, Written, Own, Term, VariableTerm, LiteralTerm, FunctionTerm}
use Rattle.cc_core.specs.Terms.{TypeFunctionTerm, BoxTerm, Application, TypeApplication, Unboxing, Let, Primitive}
use Rattle.cc_core.specs.Terms.{Conditional, Repetition, Operation, Boundary, Leave}

-- A base shape, the greatest shape and a type variable have height 1, any other shape one more than its highest part. A
-- type has the height of its shape.
abbrev pub shape_height : Shape → ℕ
shape_height (BaseShape base) = 1
shape_height AnyShape = 1
shape_height (TypeVariable variable) = 1
shape_height (FunctionShape takes c gives e) = suc (max (shape_height takes) (shape_height gives))
shape_height (TypeFunctionShape bound gives e) = suc (max (shape_height bound) (shape_height gives))
shape_height (BoxShape content c) = suc (shape_height content)
shape_height (ExitShape gives) = suc (shape_height gives)

-- that of what is written for a type, if anything is
abbrev pub note_height : Note → ℕ
note_height Absent = 0
note_height (Written shape set) = shape_height shape
note_height (Own shape) = shape_height shape

-- A variable and a literal have height 1, any other term one more than its highest part, the variables, terms, types
-- and shapes in it being its parts.
abbrev pub term_height : Term → ℕ
term_height (VariableTerm variable) = 1
term_height (LiteralTerm literal) = 1
term_height (FunctionTerm takes c body) = suc (max (shape_height takes) (term_height body))
term_height (TypeFunctionTerm bound body) = suc (max (shape_height bound) (term_height body))
term_height (BoxTerm content) = 2
term_height (Application function argument) = 2
term_height (TypeApplication function argument) = suc (shape_height argument)
term_height (Unboxing set box) = 2
term_height (Let note right body) = suc (max (note_height note) (max (term_height right) (term_height body)))
term_height (Primitive operator left right) = 2
term_height (Conditional note test positive negative) =
    suc (max (note_height note) (max (term_height positive) (term_height negative)))
term_height (Repetition count function) = 2
term_height (Operation operation receiver argument) = 2
term_height (Boundary gives body) = suc (max (shape_height gives) (term_height body))
term_height (Leave gives c exit value) = suc (shape_height gives)
