-- How terms are written.
use Rattle.std.specs.Prelude.{ℕ, suc, Bool, true, false, List, [], ◌∷◌, ◌++◌, Option, Some, None, codes}
use Rattle.std.specs.Prelude.{encode_utf8_all}
use Rattle.std.specs.Fmt.{signed_decimal}
use Rattle.cc_base.specs.Literals.{Literal, UnitLiteral, TruthLiteral, NumberLiteral, TextLiteral}
use Rattle.cc_base.specs.declared.literal.Op.{Op}
use Rattle.cc_base.specs.declared.literal.Op.TheVariants as operations
use Rattle.cc_base.specs.declared.literal.Operator.{Operator}
use Rattle.cc_base.specs.declared.literal.Operator.TheVariants as operators
use Rattle.cc_capture.specs.declared.var.Var.{Var}
use Rattle.cc_capture.specs.Sets.{Set}
use Rattle.cc_core.specs.Terms.{Note, Absent, Written, Own, Term, VariableTerm, LiteralTerm, FunctionTerm}
use Rattle.cc_core.specs.Terms.{TypeFunctionTerm, BoxTerm, Application, TypeApplication, Unboxing, Let, Primitive}
use Rattle.cc_core.specs.Terms.{Conditional, Repetition, Operation, Boundary, Leave}
use Rattle.cc_print.specs.TypeTexts.{numbered, variable_text, set_under, shape_under, type_under}

abbrev pub truth_text : Bool → List ℕ
truth_text true = codes "true"
truth_text false = codes "false"

-- a text in quotes
abbrev pub quoted : List ℕ → List ℕ
quoted text = 34 ∷ (encode_utf8_all text ++ 34 ∷ [])

-- the text of a literal
abbrev pub literal_text : Literal → List ℕ
literal_text UnitLiteral = codes "unit"
literal_text (TruthLiteral truth) = truth_text truth
literal_text (NumberLiteral number) = signed_decimal number
literal_text (TextLiteral text) = quoted text

abbrev pub operator_text : Operator → List ℕ
operator_text operators.Add = codes " + "
operator_text operators.Sub = codes " - "
operator_text operators.Mul = codes " * "
operator_text operators.Less = codes " < "
operator_text operators.Equal = codes " == "

abbrev pub operation_text : Op → List ℕ
operation_text operations.Print = codes ".print("
operation_text operations.Say = codes ".say("
operation_text operations.Read = codes ".read("
operation_text operations.Write = codes ".write("
operation_text operations.Tick = codes ".tick("

-- a variable of terms
abbrev pub named : List (List ℕ) → ℕ → Var → List ℕ
named names depth variable = variable_text names depth (codes "_") variable

-- what stands in the parentheses of an operation
abbrev pub argument_under : List (List ℕ) → ℕ → Option Var → List ℕ
argument_under names depth (Some argument) = named names depth argument
argument_under names depth None = []

-- The set under which a box is opened, and a space. An omitted one is none of a filled term, and nothing is written for
-- it.
abbrev pub opening_under : List (List ℕ) → ℕ → Option Set → List ℕ
opening_under names depth (Some set) = set_under names depth set ++ codes " "
opening_under names depth None = []

-- The type that is written at a term. A shape whose set is omitted is none of a filled term, and stands for itself.
abbrev pub note_under : List (List ℕ) → ℕ → Note → List ℕ
note_under names depth Absent = []
note_under names depth (Written shape set) = type_under names depth shape set
note_under names depth (Own shape) = shape_under names depth shape

-- the same behind a name, with a colon before it where there is one
abbrev pub behind_name : List (List ℕ) → ℕ → Note → List ℕ
behind_name names depth Absent = []
behind_name names depth (Written shape set) = codes ": " ++ type_under names depth shape set
behind_name names depth (Own shape) = codes ": " ++ shape_under names depth shape

-- The text of a term under so many binders. A binder is written with the number of those outside it. What is written
-- for the type of a parameter or of a let, a bound, and the right side of a let do not stand under the binder beside
-- them.
abbrev pub term_under : List (List ℕ) → ℕ → Term → List ℕ
term_under names depth (VariableTerm variable) = named names depth variable
term_under names depth (LiteralTerm literal) = literal_text literal
term_under names depth (FunctionTerm takes c body) =
    numbered (codes "fun (_") depth ++ codes ": " ++ type_under names depth takes c ++ codes ") => "
    ++ term_under names (suc depth) body
term_under names depth (TypeFunctionTerm bound body) =
    numbered (codes "fun [_T") depth ++ codes " <: " ++ shape_under names depth bound ++ codes "] => "
    ++ term_under names (suc depth) body
term_under names depth (BoxTerm content) = codes "box " ++ named names depth content
term_under names depth (Application function argument) =
    named names depth function ++ codes "(" ++ named names depth argument ++ codes ")"
term_under names depth (TypeApplication function argument) =
    named names depth function ++ codes "[" ++ shape_under names depth argument ++ codes "]"
term_under names depth (Unboxing set box) =
    codes "unbox " ++ opening_under names depth set ++ named names depth box
term_under names depth (Let note right body) =
    numbered (codes "let _") depth ++ behind_name names depth note ++ codes " = " ++ term_under names depth right
    ++ codes " in " ++ term_under names (suc depth) body
term_under names depth (Primitive operator left right) =
    named names depth left ++ operator_text operator ++ named names depth right
term_under names depth (Conditional note test positive negative) =
    codes "if [" ++ note_under names depth note ++ codes "] " ++ named names depth test ++ codes " then "
    ++ term_under names depth positive ++ codes " else " ++ term_under names depth negative
term_under names depth (Repetition count function) =
    codes "repeat(" ++ named names depth count ++ codes ", " ++ named names depth function ++ codes ")"
term_under names depth (Operation operation receiver argument) =
    named names depth receiver ++ operation_text operation ++ argument_under names depth argument ++ codes ")"
term_under names depth (Boundary gives body) =
    codes "boundary [" ++ shape_under names depth gives ++ numbered (codes "] _") depth ++ codes " => "
    ++ term_under names (suc depth) body
term_under names depth (Leave gives c exit value) =
    codes "exit [" ++ type_under names depth gives c ++ codes "] (" ++ named names depth exit ++ codes ", "
    ++ named names depth value ++ codes ")"

-- The text where the first free positions have these names, and so many local binders stand behind them.
abbrev pub term_text : List (List ℕ) → ℕ → Term → List ℕ
term_text names locals term = term_under names locals term
