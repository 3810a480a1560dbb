-- What texts are elaborated to, whole: each definition with its name, the type that is written for it, its right side in
-- monadic normal form, and the places of all its parts.
use Rattle.std.specs.Prelude.{◌≡◌, ℕ, pos, true, false, codes, List, [], ◌∷◌, ◌++◌, Option, Some, None}
use Rattle.cc_base.specs.Literals.{UnitLiteral, TruthLiteral, NumberLiteral, TextLiteral}
use Rattle.cc_base.specs.declared.literal.Base.TheVariants as bases
use Rattle.cc_base.specs.declared.literal.Op.TheVariants as operations
use Rattle.cc_base.specs.declared.literal.Operator.TheVariants as operators
use Rattle.cc_base.specs.declared.place.Place.{Place}
use Rattle.cc_capture.specs.declared.var.Var.TheVariants.{Bound, Free}
use Rattle.cc_capture.specs.declared.var.Elem.TheVariants.{Var as Variable, Cap, Hole}
use Rattle.cc_capture.specs.Sets.{empty, insert}
use Rattle.cc_core.specs.Places.{Places, Alone, Around, Between, spots_at}
use Rattle.cc_core.specs.Shapes as core
use Rattle.cc_core.specs.Substitution.{single}
use Rattle.cc_core.specs.Terms.{Note, Absent, Written, Own, Term, VariableTerm, LiteralTerm, FunctionTerm}
use Rattle.cc_core.specs.Terms.{TypeFunctionTerm, BoxTerm, Application, TypeApplication, Unboxing, Let, Primitive}
use Rattle.cc_core.specs.Terms.{Conditional, Repetition, Operation, Boundary, Leave}
use Rattle.cc_mnf.specs.ElaboratedModules.{CoreDefinition, Elaboration, IsElaborated, IsRefused, elaboration}
use Rattle.cc_mnf.specs.ElaboratedModules.{device_names}
use Rattle.cc_verdicts.specs.Readings.{TextReading, IsTree, IsNoModule, reading_of_text}
use Rattle.cc_worked_texts.specs.TextVerdicts.{devices}

-- the elaborated definitions, where nothing is refused
abbrev pub definitions_in : Elaboration → Option (List CoreDefinition)
definitions_in (IsElaborated core) = Some core.definitions
definitions_in (IsRefused code at) = None

-- those of a reading
abbrev pub definitions_read : TextReading → Option (List CoreDefinition)
definitions_read (IsTree tree) = definitions_in (elaboration (device_names devices) tree)
definitions_read (IsNoModule code at) = None

-- the text is a module, and is elaborated to these definitions
abbrev pub IsElaboratedTo : List ℕ → List CoreDefinition → Type 0
IsElaboratedTo text definitions = definitions_read (reading_of_text text) ≡ Some definitions

-- the place in the column of the first line
abbrev pub at : ℕ → Place
at column = record { line = 1; col = column }

-- the elaborated definition
abbrev pub defined : Place → List ℕ → Note → Term → Places → CoreDefinition
defined name_at text note right places =
    record { name = text; name_at = name_at; note = note; recursive = false; right = right; places = places }

-- a recursive one
abbrev pub defined_again : List ℕ → Note → Term → Places → CoreDefinition
defined_again text note right places =
    record { name = text; name_at = at 9; note = note; recursive = true; right = right; places = places }

-- the text, of one definition `a` without a written type, has the right side
abbrev pub Becomes : List ℕ → Term → Places → Type 0
Becomes text term places = IsElaboratedTo text (defined (at 5) (codes "a") Absent term places ∷ [])

-- the shapes of numbers and of the unit value
abbrev pub integer : core.Shape
integer = core.BaseShape bases.Int

abbrev pub unit_shape : core.Shape
unit_shape = core.BaseShape bases.Unit

-- a number
abbrev pub numeral : ℕ → Term
numeral value = LiteralTerm (NumberLiteral (pos value))

-- the places of a term in the column that has no operand and no part
abbrev pub alone : ℕ → Places
alone column = Alone (spots_at (at column) (at column) (at column))

-- of one that has these three places
abbrev pub operands : ℕ → ℕ → ℕ → Places
operands start one other = Alone (spots_at (at start) (at one) (at other))

-- of one that has one part
abbrev pub around : ℕ → Places → Places
around start part = Around (spots_at (at start) (at start) (at start)) part

-- of a `let` or of a choice: where it starts, and its first place
abbrev pub between : ℕ → ℕ → Places → Places → Places
between start one part other = Between (spots_at (at start) (at one) (at start)) part other

-- The argument is no name. Its `let` starts where the outer application does, and it itself at its parenthesis.
abbrev pub ArgumentIsNamed : Type 0
ArgumentIsNamed =
    Becomes
    (codes "def a = fun (f: Int) => fun (g: Int) => f((g(f)))")
    (FunctionTerm integer empty
    (FunctionTerm integer empty
    (Let Absent (Application (Bound 0) (Bound 1)) (Application (Bound 2) (Bound 0)))))
    (around 9 (around 25 (between 41 43 (operands 43 44 46) (operands 41 41 43))))

-- Operands are named from left to right, each within its own construct.
abbrev pub OperandsInOperands : Type 0
OperandsInOperands =
    Becomes
    (codes "def a = fun (u: Unit) => out.print((1 + (2 * 3)))")
    (FunctionTerm unit_shape empty
    (Let Absent
    (Let Absent (numeral 1)
    (Let Absent
    (Let Absent (numeral 2) (Let Absent (numeral 3) (Primitive operators.Mul (Bound 1) (Bound 0))))
    (Primitive operators.Add (Bound 1) (Bound 0))))
    (Operation operations.Print (Free 0) (Some (Bound 0)))))
    (around 9
    (between 26 36
    (between 36 37 (alone 37)
    (between 36 41
    (between 41 42 (alone 42) (between 41 46 (alone 46) (operands 41 42 46)))
    (operands 36 37 41)))
    (operands 26 26 36)))

-- The word `val` is no longer the start of the expression, and the read starts at its parenthesis.
abbrev pub ParenthesesStartExpressions : Type 0
ParenthesesStartExpressions =
    Becomes
    (codes "def a = fun (u: Unit) => (val x = u; (out.read()))")
    (FunctionTerm unit_shape empty
    (Let Absent (VariableTerm (Bound 0)) (Operation operations.Read (Free 0) None)))
    (around 9 (between 26 27 (alone 35) (operands 38 39 38)))

-- The set stands under the `let` of the operand. The word `unbox` is the second place.
abbrev pub SetsStandUnderLets : Type 0
SetsStandUnderLets =
    Becomes
    (codes "def a = fun (b: Box[Int]) => (unbox {b, cap} (unbox (b)))")
    (FunctionTerm (core.BoxShape integer empty) empty
    (Let Absent (Unboxing None (Bound 0))
    (Unboxing (Some (insert Cap (insert (Variable (Bound 1)) empty))) (Bound 0))))
    (around 9 (between 30 46 (operands 46 53 47) (operands 30 46 31)))

-- The type that is written stands under the `let` of the condition, and so do both branches.
abbrev pub ChoicesStandUnderLets : Type 0
ChoicesStandUnderLets =
    Becomes
    (codes "def a = fun (u: Int) => if [Int^{u}] 1 < u then u else 2")
    (FunctionTerm integer empty
    (Let Absent (Let Absent (numeral 1) (Primitive operators.Less (Bound 0) (Bound 1)))
    (Conditional (Written integer (single (Variable (Bound 1)))) (Bound 0) (VariableTerm (Bound 1)) (numeral 2))))
    (around 9
    (between 25 38 (between 38 38 (alone 38) (operands 38 38 42)) (between 25 38 (alone 49) (alone 56))))

-- The type stands under the `let`s of both operands, which start where the exit does.
abbrev pub ExitsStandUnderLets : Type 0
ExitsStandUnderLets =
    Becomes
    (codes "def a = fun (x: Box[Exit[Int]]) => exit [Any^{x}] (unbox x, 1)")
    (FunctionTerm (core.BoxShape (core.ExitShape integer) empty) empty
    (Let Absent (Unboxing None (Bound 0))
    (Let Absent (numeral 1) (Leave core.AnyShape (single (Variable (Bound 2))) (Bound 1) (Bound 0)))))
    (around 9 (between 36 52 (operands 52 58 52) (between 36 61 (alone 61) (operands 36 52 61))))

abbrev pub RepetitionsHaveOperands : Type 0
RepetitionsHaveOperands =
    Becomes
    (codes "def a = fun (u: Unit) => repeat(2 + 3, fun (i: Int) => out.print(i))")
    (FunctionTerm unit_shape empty
    (Let Absent
    (Let Absent (numeral 2) (Let Absent (numeral 3) (Primitive operators.Add (Bound 1) (Bound 0))))
    (Let Absent (FunctionTerm integer empty (Operation operations.Print (Free 0) (Some (Bound 0))))
    (Repetition (Bound 1) (Bound 0)))))
    (around 9
    (between 26 33
    (between 33 33 (alone 33) (between 33 37 (alone 37) (operands 33 33 37)))
    (between 26 40 (around 40 (operands 56 56 66)) (operands 26 33 40))))

abbrev pub BoundariesBindTheirExits : Type 0
BoundariesBindTheirExits =
    Becomes
    (codes "def a = fun (f: Unit) => boundary [Int] z => (f(z))[Int]")
    (FunctionTerm unit_shape empty
    (Boundary integer
    (Let Absent (Application (Bound 1) (Bound 0)) (TypeApplication (Bound 0) integer))))
    (around 9 (around 26 (between 46 46 (operands 46 47 49) (operands 46 46 53))))

-- Names of types and of terms are apart. An index counts the binders of both.
abbrev pub NamesOfTypesAreApart : Type 0
NamesOfTypesAreApart =
    Becomes
    (codes "def a = fun (x: Unit) => fun [x <: Any] => fun (y: x^{x}) => x")
    (FunctionTerm unit_shape empty
    (TypeFunctionTerm core.AnyShape
    (FunctionTerm (core.TypeVariable (Bound 0)) (single (Variable (Bound 1))) (VariableTerm (Bound 2)))))
    (around 9 (around 26 (around 44 (alone 62))))

-- A local name hides a device.
abbrev pub LocalNamesHide : Type 0
LocalNamesHide =
    Becomes
    (codes "def a = fun (out: Int) => out")
    (FunctionTerm integer empty (VariableTerm (Bound 0)))
    (around 9 (alone 27))

-- The innermost binder counts, and a parameter is not visible in its own type.
abbrev pub InnermostBinderCounts : Type 0
InnermostBinderCounts =
    Becomes
    (codes "def a = fun (x: Int) => fun (x: (x: Int^{x}) -> Int^{x}) => x")
    (FunctionTerm integer empty
    (FunctionTerm
    (core.FunctionShape integer (single (Variable (Bound 0))) integer (single (Variable (Bound 0)))) empty
    (VariableTerm (Bound 0))))
    (around 9 (around 25 (alone 61)))

-- Omitted sets of a definition, of a `val` and of a choice are their own.
abbrev pub OmittedSetsAreTheirOwn : Type 0
OmittedSetsAreTheirOwn =
    IsElaboratedTo
    (codes "def a: ((x: Int) -> Int)^? = (fun (x: Int) => val y: Int^? = x; if [Int^?] x then x else y)")
    (defined (at 5) (codes "a") (Own (core.FunctionShape integer empty integer empty))
    (FunctionTerm integer empty
    (Let (Own integer) (VariableTerm (Bound 0))
    (Conditional (Own integer) (Bound 1) (VariableTerm (Bound 1)) (VariableTerm (Bound 0)))))
    (around 30 (between 47 47 (alone 62) (between 65 76 (alone 83) (alone 90))))
    ∷ [])

-- Each omitted set of a parameter is a hole of its own, and each definition counts its own from 0 on.
abbrev pub HolesAreCounted : Type 0
HolesAreCounted =
    IsElaboratedTo
    (codes "def a = fun (f: Int^?) => fun (g: Int^?) => f def b = fun (h: Int^?) => h")
    (defined (at 5) (codes "a") Absent
    (FunctionTerm integer (single (Hole 0)) (FunctionTerm integer (single (Hole 1)) (VariableTerm (Bound 1))))
    (around 9 (around 27 (alone 45)))
    ∷ defined (at 51) (codes "b") Absent (FunctionTerm integer (single (Hole 0)) (VariableTerm (Bound 0)))
    (around 55 (alone 73))
    ∷ [])

-- Free positions are the devices, then the imports, then the definitions.
abbrev pub PositionsAreInOrder : Type 0
PositionsAreInOrder =
    IsElaboratedTo
    (codes "import m.f def a = fun (x: Int) => f(out) def b = fun (x: Int) => a(x)")
    (defined (at 16) (codes "a") Absent (FunctionTerm integer empty (Application (Free 2) (Free 0)))
    (around 20 (operands 36 36 38))
    ∷ defined (at 47) (codes "b") Absent (FunctionTerm integer empty (Application (Free 3) (Bound 0)))
    (around 51 (operands 67 67 69))
    ∷ [])

-- The name of a recursive definition is the next free position in its own right side.
abbrev pub OwnNameIsVisible : Type 0
OwnNameIsVisible =
    IsElaboratedTo
    (codes "def rec f: (u: Unit) -> Unit = fun (u: Unit) => val w = out.print(1); f(u)")
    (defined_again (codes "f") (Written (core.FunctionShape unit_shape empty unit_shape empty) empty)
    (FunctionTerm unit_shape empty
    (Let Absent (Let Absent (numeral 1) (Operation operations.Print (Free 0) (Some (Bound 0))))
    (Application (Free 2) (Bound 1))))
    (around 32
    (between 49 49 (between 57 67 (alone 67) (operands 57 57 67)) (operands 71 71 73)))
    ∷ [])

-- A type function may be recursive.
abbrev pub TypeFunctionsMayBeRecursive : Type 0
TypeFunctionsMayBeRecursive =
    IsElaboratedTo
    (codes "def rec f: Int = fun [X <: Any] => f")
    (defined_again (codes "f") (Written integer empty) (TypeFunctionTerm core.AnyShape (VariableTerm (Free 2)))
    (around 18 (alone 36))
    ∷ [])

-- A box of a variable is a value, and parentheses around a name are none.
abbrev pub BoxOfANameIsAValue : Type 0
BoxOfANameIsAValue =
    Becomes
    (codes "def a = box (out)")
    (BoxTerm (Free 0)) (alone 9)

-- A construct starts at the parenthesis around it, and so does the `let` of its operand.
abbrev pub ChoicesStartAtTheirParentheses : Type 0
ChoicesStartAtTheirParentheses =
    Becomes
    (codes "def a = fun (u: Int) => (if [Int] 1 < u then (fun [X <: Any] => 1) else (boundary [Int] z => 2))")
    (FunctionTerm integer empty
    (Let Absent (Let Absent (numeral 1) (Primitive operators.Less (Bound 0) (Bound 1)))
    (Conditional (Written integer empty) (Bound 0) (TypeFunctionTerm core.AnyShape (numeral 1))
    (Boundary integer (numeral 2)))))
    (around 9
    (between 25 35 (between 35 35 (alone 35) (operands 35 35 39))
    (between 25 35 (around 46 (alone 65)) (around 73 (alone 94)))))

abbrev pub OperationsStartAtTheirParentheses : Type 0
OperationsStartAtTheirParentheses =
    Becomes
    (codes "def a = fun (u: Int) => (out.print((u + u)))")
    (FunctionTerm integer empty
    (Let Absent (Primitive operators.Add (Bound 0) (Bound 0)) (Operation operations.Print (Free 0) (Some (Bound 0)))))
    (around 9 (between 25 36 (operands 36 37 41) (operands 25 26 36)))

abbrev pub RepetitionsStartAtTheirParentheses : Type 0
RepetitionsStartAtTheirParentheses =
    Becomes
    (codes "def a = fun (u: Int) => (repeat(u, (exit [Int] (u, u))))")
    (FunctionTerm integer empty
    (Let Absent (Leave integer empty (Bound 0) (Bound 0)) (Repetition (Bound 1) (Bound 0))))
    (around 9 (between 25 36 (operands 36 49 52) (operands 25 33 36)))

-- Each literal, and the operators and operations that stand in no text above.
abbrev pub ShortRightSides : Type 0
ShortRightSides =
    IsElaboratedTo
    (codes "def a = true def b = false def c = unit def d = \"xy\" def e = fun (x: Int) => x - x def "
    ++ codes "f = fun (x: Int) => x == x def g = fun (x: Int) => out.say(x) def h = fun (x: Int) => "
    ++ codes "x.write(x) def i = fun (x: Int) => hits.tick()")
    (defined (at 5) (codes "a") Absent (LiteralTerm (TruthLiteral true)) (alone 9)
    ∷ defined (at 18) (codes "b") Absent (LiteralTerm (TruthLiteral false)) (alone 22)
    ∷ defined (at 32) (codes "c") Absent (LiteralTerm UnitLiteral) (alone 36)
    ∷ defined (at 45) (codes "d") Absent (LiteralTerm (TextLiteral (codes "xy"))) (alone 49)
    ∷ defined (at 58) (codes "e") Absent (FunctionTerm integer empty (Primitive operators.Sub (Bound 0) (Bound 0)))
    (around 62 (operands 78 78 82))
    ∷ defined (at 88) (codes "f") Absent (FunctionTerm integer empty (Primitive operators.Equal (Bound 0) (Bound 0)))
    (around 92 (operands 108 108 113))
    ∷ defined (at 119) (codes "g") Absent (FunctionTerm integer empty (Operation operations.Say (Free 0) (Some (Bound 0))))
    (around 123 (operands 139 139 147))
    ∷ defined (at 154) (codes "h") Absent (FunctionTerm integer empty (Operation operations.Write (Bound 0) (Some (Bound 0))))
    (around 158 (operands 174 174 182))
    ∷ defined (at 189) (codes "i") Absent (FunctionTerm integer empty (Operation operations.Tick (Free 1) None))
    (around 193 (operands 209 209 209))
    ∷ [])
