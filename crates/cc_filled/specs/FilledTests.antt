-- The test whether a term is another one with its omitted sets filled in. It serves the code alone.
use Rattle.std.specs.Prelude.{ℕ, Bool, true, false, ◌&&◌, ◌||◌, nat_eq, ℤ, pos, negsuc, Option, Some, None}
use Rattle.std.specs.List.{list_any}
use Rattle.std.specs.Str.{bytes_eq}
use Rattle.cc_base.specs.Literals.{Literal, UnitLiteral, TruthLiteral, NumberLiteral, TextLiteral}
use Rattle.cc_base.specs.declared.literal.Operator.{Operator}
use Rattle.cc_base.specs.declared.literal.Operator.TheVariants as operators
use Rattle.cc_base.specs.declared.literal.Op.{Op}
use Rattle.cc_base.specs.declared.literal.Op.TheVariants as operations
use Rattle.cc_capture.specs.declared.var.Var.{Var}
use Rattle.cc_capture.specs.Sets.{Set, same_set}
use Rattle.cc_capture.specs.Variables.{same_variable}
use Rattle.cc_core.specs.Equality.{same_shape}
use Rattle.cc_core.specs.Questions.{is_hole}
use Rattle.cc_core.specs.Shapes.{Shape}
use Rattle.cc_core.specs.Terms.{Note, Absent, Written, Own, Term, VariableTerm, LiteralTerm, FunctionTerm}
use Rattle.cc_core.specs.Terms.{TypeFunctionTerm, BoxTerm, Application, TypeApplication, Unboxing, Let, Primitive}
use Rattle.cc_core.specs.Terms.{Conditional, Repetition, Operation, Boundary, Leave}

-- whether two numbers are one
abbrev pub same_number : ℤ → ℤ → Bool
same_number (pos a) (pos b) = nat_eq a b
same_number (negsuc a) (negsuc b) = nat_eq a b
same_number _ _ = false

-- whether two truth values are one
abbrev pub same_truth : Bool → Bool → Bool
same_truth true true = true
same_truth false false = true
same_truth _ _ = false

-- whether two literals are one
abbrev pub same_literal : Literal → Literal → Bool
same_literal UnitLiteral UnitLiteral = true
same_literal (TruthLiteral truth) (TruthLiteral other) = same_truth truth other
same_literal (NumberLiteral number) (NumberLiteral other) = same_number number other
same_literal (TextLiteral text) (TextLiteral other) = bytes_eq text other
same_literal _ _ = false

-- a number for each operator
abbrev pub operator_number : Operator → ℕ
operator_number operators.Add = 0
operator_number operators.Sub = 1
operator_number operators.Mul = 2
operator_number operators.Less = 3
operator_number operators.Equal = 4

-- a number for each operation
abbrev pub operation_number : Op → ℕ
operation_number operations.Print = 0
operation_number operations.Say = 1
operation_number operations.Read = 2
operation_number operations.Write = 3
operation_number operations.Tick = 4

-- whether two arguments are one, where there are any
abbrev pub same_argument : Option Var → Option Var → Bool
same_argument None None = true
same_argument (Some variable) (Some other) = same_variable variable other
same_argument _ _ = false

-- whether the set is omitted
abbrev pub is_omitted : Set → Bool
is_omitted set = list_any is_hole set.list

-- whether the second set may stand for the first
abbrev pub fills_set : Set → Set → Bool
fills_set written set = is_omitted written || same_set written set

abbrev pub fills_opened_set : Option Set → Option Set → Bool
fills_opened_set None (Some set) = true
fills_opened_set None None = false
fills_opened_set (Some written) (Some set) = same_set written set
fills_opened_set (Some written) None = false

-- whether the second note may stand for the first
abbrev pub fills_note : Note → Note → Bool
fills_note Absent Absent = true
fills_note (Written shape set) (Written shape' set') = same_shape shape shape' && same_set set set'
fills_note (Own shape) (Written shape' set') = same_shape shape shape'
fills_note _ _ = false

-- whether the second term is the first with its omitted sets filled in
abbrev pub is_filled_as : Term → Term → Bool
is_filled_as (VariableTerm variable) (VariableTerm other) = same_variable variable other
is_filled_as (LiteralTerm literal) (LiteralTerm other) = same_literal literal other
is_filled_as (FunctionTerm takes c body) (FunctionTerm takes' d filled) =
    same_shape takes takes' && fills_set c d && is_filled_as body filled
is_filled_as (TypeFunctionTerm bound body) (TypeFunctionTerm bound' filled) =
    same_shape bound bound' && is_filled_as body filled
is_filled_as (BoxTerm content) (BoxTerm other) = same_variable content other
is_filled_as (Application function argument) (Application function' argument') =
    same_variable function function' && same_variable argument argument'
is_filled_as (TypeApplication function argument) (TypeApplication function' argument') =
    same_variable function function' && same_shape argument argument'
is_filled_as (Unboxing opened box) (Unboxing opened' box') =
    fills_opened_set opened opened' && same_variable box box'
is_filled_as (Let note right body) (Let note' right' body') =
    fills_note note note' && is_filled_as right right' && is_filled_as body body'
is_filled_as (Primitive operator left right) (Primitive operator' left' right') =
    nat_eq (operator_number operator) (operator_number operator') && same_variable left left'
    && same_variable right right'
is_filled_as (Conditional note test positive negative) (Conditional note' test' positive' negative') =
    fills_note note note' && same_variable test test' && is_filled_as positive positive'
    && is_filled_as negative negative'
is_filled_as (Repetition count function) (Repetition count' function') =
    same_variable count count' && same_variable function function'
is_filled_as (Operation operation receiver argument) (Operation operation' receiver' argument') =
    nat_eq (operation_number operation) (operation_number operation') && same_variable receiver receiver'
    && same_argument argument argument'
is_filled_as (Boundary gives body) (Boundary gives' filled) = same_shape gives gives' && is_filled_as body filled
is_filled_as (Leave gives c exit value) (Leave gives' c' exit' value') =
    same_shape gives gives' && same_set c c' && same_variable exit exit' && same_variable value value'
is_filled_as _ _ = false
