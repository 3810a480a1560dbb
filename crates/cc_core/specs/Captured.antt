-- The captured variables of a term.
use Rattle.std.specs.Prelude.{zero, suc, Bool, true, false, not, ◌&&◌, Option, Some, None, if◌then◌else◌}
use Rattle.cc_capture.specs.declared.var.Var.{Var}
use Rattle.cc_capture.specs.declared.var.Var.TheVariants.{Bound, Free}
use Rattle.cc_capture.specs.declared.var.Elem.{Elem}
use Rattle.cc_capture.specs.declared.var.Elem.TheVariants.{Var as Variable, Cap, Hole}
use Rattle.cc_capture.specs.Sets.{Set, contains, empty, union, flat_image}
use Rattle.cc_core.specs.Terms.{Term, VariableTerm, LiteralTerm, FunctionTerm, TypeFunctionTerm, BoxTerm, Application}
use Rattle.cc_core.specs.Terms.{TypeApplication, Unboxing, Let, Primitive, Conditional, Repetition, Operation, Boundary}
use Rattle.cc_core.specs.Terms.{Leave}
use Rattle.cc_core.specs.Substitution.{single}

-- literals, functions, type functions and boxes are values
abbrev pub is_value : Term → Bool
is_value (LiteralTerm literal) = true
is_value (FunctionTerm takes c body) = true
is_value (TypeFunctionTerm bound body) = true
is_value (BoxTerm content) = true
is_value _ = false

-- an element of a body as it stands outside its binder: the index 0 is gone, and the others count one binder less
abbrev pub outside : Elem → Set
outside (Variable (Bound zero)) = empty
outside (Variable (Bound (suc index))) = single (Variable (Bound index))
outside (Variable (Free position)) = single (Variable (Free position))
outside Cap = single Cap
outside (Hole number) = single (Hole number)

-- a body's set as it stands outside its binder
abbrev pub without_binder : Set → Set
without_binder set = flat_image outside set

-- the set of one variable
abbrev pub variable_set : Var → Set
variable_set variable = single (Variable variable)

-- a set that may be omitted
abbrev pub optional_set : Option Set → Set
optional_set (Some set) = set
optional_set None = empty

-- the set of an argument that may not be there
abbrev pub optional_variable_set : Option Var → Set
optional_variable_set (Some variable) = variable_set variable
optional_variable_set None = empty

-- whether a let has a value on its right side, whose variable the body does not capture
abbrev pub is_unused_value : Term → Set → Bool
is_unused_value right body = is_value right && not (contains (Variable (Bound zero)) body)

-- The captured variables of a term, which CC<:□ calls cv: those that running it may use. A box captures nothing, and
-- opening one captures the set that is written there; an omitted one counts as empty. The right side of a let counts
-- unless it is a value that is never used.
abbrev pub captured_variables : Term → Set
captured_variables (VariableTerm variable) = variable_set variable
captured_variables (LiteralTerm literal) = empty
captured_variables (FunctionTerm takes c body) = without_binder (captured_variables body)
captured_variables (TypeFunctionTerm bound body) = without_binder (captured_variables body)
captured_variables (BoxTerm content) = empty
captured_variables (Application function argument) = union (variable_set function) (variable_set argument)
captured_variables (TypeApplication function argument) = variable_set function
captured_variables (Unboxing set box) = union (optional_set set) (variable_set box)
captured_variables (Let note right body) =
    if is_unused_value right (captured_variables body)
    then without_binder (captured_variables body)
    else union (captured_variables right) (without_binder (captured_variables body))
captured_variables (Primitive operator left right) = union (variable_set left) (variable_set right)
captured_variables (Conditional note test positive negative) =
    union (variable_set test) (union (captured_variables positive) (captured_variables negative))
captured_variables (Repetition count function) = union (variable_set count) (variable_set function)
captured_variables (Operation operation receiver argument) =
    union (variable_set receiver) (optional_variable_set argument)
captured_variables (Boundary gives body) = without_binder (captured_variables body)
captured_variables (Leave gives c exit value) = union (variable_set exit) (variable_set value)
