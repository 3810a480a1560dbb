-- Worked examples of inference and of checking definitions. A definition is given as its text in a comment, with the
-- places of that text, as LINE:COL.
use Rattle.std.specs.Prelude.{◌≡◌, ℕ, pos, false, true, List, [], ◌∷◌, Some, None}
use Rattle.cc_base.specs.Literals.{UnitLiteral, NumberLiteral}
use Rattle.cc_base.specs.declared.code.Code.TheVariants.{E13, E14, E17}
use Rattle.cc_base.specs.declared.literal.Base.TheVariants as bases
use Rattle.cc_base.specs.declared.literal.Op.TheVariants as operations
use Rattle.cc_base.specs.declared.place.Place.{Place}
use Rattle.cc_capture.specs.declared.var.Var.TheVariants.{Bound, Free}
use Rattle.cc_capture.specs.declared.var.Elem.TheVariants.{Cap}
use Rattle.cc_capture.specs.Sets.{Set, empty}
use Rattle.cc_core.specs.Shapes.{Shape, BaseShape, AnyShape, TypeVariable, FunctionShape, TypeFunctionShape, BoxShape}
use Rattle.cc_core.specs.Shapes.{CapturingType, capturing}
use Rattle.cc_core.specs.Terms.{Note, Absent, Written, Term, VariableTerm, LiteralTerm, FunctionTerm}
use Rattle.cc_core.specs.Terms.{TypeFunctionTerm, Application, Unboxing, Let, Operation}
use Rattle.cc_core.specs.Contexts.{TermEntry, Context}
use Rattle.cc_core.specs.Substitution.{single}
use Rattle.cc_core.specs.Derivations.{t-var, t-abs, OfType, Node, NoPremise, one}
use Rattle.cc_core.specs.Places.{Places, Alone, Around, Between, spots_at}
use Rattle.cc_checking.specs.Comparison.{demanded}
use Rattle.cc_checking.specs.ComparisonExamples.{number, nothing, printing, first, third, parameter, with_console}
use Rattle.cc_checking.specs.Outcomes.{IsCapless, Placed, placed_at, Refused, Found}
use Rattle.cc_checking.specs.Inference.{captured_in, demand_at}
use Rattle.cc_checking.specs.Verdicts.{Definition, IsChecked, checking}
use Rattle.cc_checking.specs.CanonicalDerivations.{canonical_shapes, definition_derived}
use Rattle.cc_checking.specs.DerivationSizes.{nodes, canonical_shape_nodes, definition_counted}

-- the place of the line and the column
abbrev pub place : ℕ → ℕ → Place
place line column = record { line = line; col = column }

-- a term at a column of the first line, with no operand of its own
abbrev pub at_column : ℕ → Places
at_column column = Alone (spots_at (place 1 column) (place 1 column) (place 1 column))

-- one with two operands
abbrev pub at_columns : ℕ → ℕ → Places
at_columns first_column second_column =
    Alone (spots_at (place 1 first_column) (place 1 first_column) (place 1 second_column))

-- a function, or another term around one part, that starts at the column
abbrev pub around_column : ℕ → Places → Places
around_column column part = Around (spots_at (place 1 column) (place 1 column) (place 1 column)) part

-- a definition of one line, whose name is in column 5 where it is not recursive
abbrev pub defined : Note → Term → Places → Definition
defined note right places =
    record { name_at = place 1 5; note = note; recursive = false; right = right; places = places }

-- a definition of one line that is recursive
abbrev pub defined_again : Note → Term → Places → Definition
defined_again note right places =
    record { name_at = place 1 9; note = note; recursive = true; right = right; places = places }

-- functions from a unit to what captures the set
abbrev pub from_nothing : Shape → Set → Shape
from_nothing gives set = FunctionShape nothing empty gives set

-- the shape of consoles
abbrev pub console : Shape
console = BaseShape bases.Console

-- def k: (x: Unit) -> Unit = fun (x: Unit) => out
-- A console is no unit: the shapes do not match.
abbrev pub ConsoleIsNoUnit : Type 0
ConsoleIsNoUnit =
    IsChecked 1 with_console
    (defined (Written (from_nothing nothing empty) empty) (FunctionTerm nothing empty (VariableTerm (Free 0)))
    (around_column 28 (at_column 45)))
    (Refused E14 (place 1 28))

-- def k: (x: Unit) -> Console = fun (x: Unit) => out
-- The shapes match. The set of the function is asked to be below the empty one, then what it takes, and then what it
-- gives.
abbrev pub console_given : Definition
console_given =
    defined (Written (from_nothing console empty) empty) (FunctionTerm nothing empty (VariableTerm (Free 0)))
    (around_column 31 (at_column 48))

-- what is asked of it
abbrev pub asked_of_console_given : List Placed
asked_of_console_given =
    demand_at (place 1 31) (demanded with_console (single first) empty)
    ∷ demand_at (place 1 31) (demanded with_console empty empty)
    ∷ demand_at (place 1 31) (demanded (TermEntry nothing empty ∷ with_console) (single first) empty)
    ∷ []

abbrev pub ConsoleGivenAsksThree : Type 0
ConsoleGivenAsksThree =
    IsChecked 1 with_console console_given
    (Found
    (checking (Written (from_nothing console empty) empty) (FunctionTerm nothing empty (VariableTerm (Free 0)))
    (capturing (from_nothing console empty) empty) None)
    asked_of_console_given)

-- def a = fun (x: Unit) => x(x)
-- A unit is no function.
abbrev pub UnitIsNoFunction : Type 0
UnitIsNoFunction =
    IsChecked 0 []
    (defined Absent (FunctionTerm nothing empty (Application (Bound 0) (Bound 0)))
    (around_column 9 (at_columns 26 28)))
    (Refused E13 (place 1 26))

-- def a = fun (x: Box[Int]) => unbox {cap} x
-- The set of the content is asked to be below the one that is written, and that one to be without the universal
-- capability.
abbrev pub box_of_cap_opened : Definition
box_of_cap_opened =
    defined Absent (FunctionTerm (BoxShape number empty) empty (Unboxing (Some (single Cap)) (Bound 0)))
    (around_column 9 (Alone (spots_at (place 1 30) (place 1 42) (place 1 30))))

-- what is asked of it
abbrev pub asked_of_box_of_cap_opened : List Placed
asked_of_box_of_cap_opened =
    demand_at (place 1 42) (demanded (TermEntry (BoxShape number empty) empty ∷ []) empty (single Cap))
    ∷ placed_at (place 1 30) (IsCapless (single Cap))
    ∷ []

abbrev pub OpeningAsksForASetWithoutCap : Type 0
OpeningAsksForASetWithoutCap =
    IsChecked 0 [] box_of_cap_opened
    (Found
    (checking Absent
    (FunctionTerm (BoxShape number empty) empty (Unboxing (Some (single Cap)) (Bound 0)))
    (capturing (FunctionShape (BoxShape number empty) empty number (single Cap)) (single Cap)) None)
    asked_of_box_of_cap_opened)

-- def a = fun (x: Unit) => val y = 1; fun [X <: Box[Int^{y}]] => unit
-- A bound may become neither larger nor smaller, so y cannot be avoided there.
abbrev pub BoundsKeepTheirNames : Type 0
BoundsKeepTheirNames =
    IsChecked 0 []
    (defined Absent
    (FunctionTerm nothing empty
    (Let Absent (LiteralTerm (NumberLiteral (pos 1)))
    (TypeFunctionTerm (BoxShape number (single parameter)) (LiteralTerm UnitLiteral))))
    (around_column 9
    (Between (spots_at (place 1 26) (place 1 26) (place 1 26)) (at_column 34)
    (around_column 37 (at_column 64)))))
    (Refused E17 (place 1 26))

-- def p: [X <: Int] -> (x: X) -> X = fun [X <: Any] => fun (x: X) => x
-- Type functions compare under one and the same bound.
abbrev pub BoundsHaveToBeTheSame : Type 0
BoundsHaveToBeTheSame =
    IsChecked 0 []
    (defined
    (Written
    (TypeFunctionShape number (FunctionShape (TypeVariable (Bound 0)) empty (TypeVariable (Bound 1)) empty) empty)
    empty)
    (TypeFunctionTerm AnyShape (FunctionTerm (TypeVariable (Bound 0)) empty (VariableTerm (Bound 0))))
    (around_column 36 (around_column 54 (at_column 68))))
    (Refused E14 (place 1 36))

-- def b = fun (x: Box[Int^{out}]) => unbox x
-- An omitted set is that of the content, and stands in the completed term.
abbrev pub OmittedSetsAreThoseOfContents : Type 0
OmittedSetsAreThoseOfContents =
    IsChecked 1 with_console
    (defined Absent (FunctionTerm (BoxShape number (single first)) empty (Unboxing None (Bound 0)))
    (around_column 9 (Alone (spots_at (place 1 36) (place 1 42) (place 1 36)))))
    (Found
    (checking Absent
    (FunctionTerm (BoxShape number (single first)) empty (Unboxing (Some (single first)) (Bound 0)))
    (capturing (FunctionShape (BoxShape number (single first)) empty number (single first)) (single first)) None)
    (placed_at (place 1 36) (IsCapless (single first)) ∷ []))

-- def rec f: (u: Unit) -> Unit = fun (u: Unit) => val w = out.print(1); f(u)
-- The set of f is empty, so what f captures is asked to be below the empty set: the console, and f itself.
abbrev pub printing_again : Definition
printing_again =
    defined_again (Written (from_nothing nothing empty) empty)
    (FunctionTerm nothing empty
    (Let Absent
    (Let Absent (LiteralTerm (NumberLiteral (pos 1))) (Operation operations.Print (Free 0) (Some (Bound 0))))
    (Application (Free 1) (Bound 1))))
    (around_column 32
    (Between (spots_at (place 1 49) (place 1 49) (place 1 49))
    (Between (spots_at (place 1 57) (place 1 67) (place 1 67)) (at_column 67) (at_columns 57 67))
    (at_columns 71 73)))

-- the name has the signature as its type
abbrev pub with_printing_again : Context
with_printing_again = TermEntry (from_nothing nothing empty) empty ∷ with_console

-- what is asked of it: first by the application in its body
abbrev pub asked_of_printing_again : List Placed
asked_of_printing_again =
    demand_at (place 1 73)
    (demanded (TermEntry nothing empty ∷ TermEntry nothing empty ∷ with_printing_again) (single third) empty)
    ∷ demand_at (place 1 32) (demanded with_printing_again (captured_in with_printing_again printing_again.right) empty)
    ∷ []

-- the signature is known before, and the function is compared with it
abbrev pub RecursionHasItsSignature : Type 0
RecursionHasItsSignature =
    IsChecked 1 with_console printing_again
    (Found
    (checking (Written (from_nothing nothing empty) empty)
    (FunctionTerm nothing empty
    (Let Absent
    (Let Absent (LiteralTerm (NumberLiteral (pos 1))) (Operation operations.Print (Free 0) (Some (Bound 0))))
    (Application (Free 1) (Bound 1))))
    (capturing (from_nothing nothing empty) empty)
    (Some (capturing (from_nothing nothing empty) empty)))
    asked_of_printing_again)

-- def id = fun (x: Unit) => x
-- Its canonical derivation: the variable, and the function around it.
abbrev pub IdentityHasTwoNodes : Type 0
IdentityHasTwoNodes =
    definition_derived canonical_shapes [] Absent (FunctionTerm nothing empty (VariableTerm (Bound 0)))
    (capturing (FunctionShape nothing empty nothing (single parameter)) empty)
    ≡ Node t-abs
    (one (Node t-var NoPremise (OfType (capturing nothing (single first)))))
    (OfType (capturing (FunctionShape nothing empty nothing (single parameter)) empty))

-- def f: ((x: Int) -> Unit)^{out} = fun (x: Int) => out.print(x)
-- Its canonical derivation has fourteen nodes: nine for the function, of which the argument of print takes six, and
-- its type
-- compared with the one that is written.
abbrev pub printer : Term
printer = FunctionTerm number empty (Operation operations.Print (Free 0) (Some (Bound 0)))

-- its type
abbrev pub printer_type : CapturingType
printer_type = capturing printing (single first)

abbrev pub PrinterHasFourteenNodes : Type 0
PrinterHasFourteenNodes =
    (nodes
    (definition_derived canonical_shapes with_console (Written printing (single first)) printer printer_type)
    ≡ 14)
    × ((definition_counted canonical_shape_nodes with_console (Written printing (single first)) printer
    printer_type).nodes
    ≡ 14)
