-- Definitions to be checked, each as its text in a comment, with the places of that text, as LINE:COL. What stands for
-- an operand that is no name is a `let` of its own, and a hole for each omitted set of a parameter.
use Rattle.std.specs.Prelude.{ℕ, zero, suc, pos, false, true, ◌∷◌, Some, None}
use Rattle.cc_base.specs.Literals.{UnitLiteral, NumberLiteral}
use Rattle.cc_base.specs.declared.literal.Base.TheVariants as bases
use Rattle.cc_base.specs.declared.literal.Op.TheVariants as operations
use Rattle.cc_base.specs.declared.literal.Operator.TheVariants as operators
use Rattle.cc_base.specs.declared.place.Place.{Place}
use Rattle.cc_capture.specs.declared.var.Var.{Var}
use Rattle.cc_capture.specs.declared.var.Var.TheVariants.{Bound, Free}
use Rattle.cc_capture.specs.declared.var.Elem.TheVariants.{Cap, Hole}
use Rattle.cc_capture.specs.Sets.{Set, empty, union}
use Rattle.cc_core.specs.Shapes.{Shape, BaseShape, AnyShape, TypeVariable, FunctionShape, TypeFunctionShape, BoxShape}
use Rattle.cc_core.specs.Terms.{Note, Absent, Written, Own, Term, VariableTerm, LiteralTerm, FunctionTerm}
use Rattle.cc_core.specs.Terms.{TypeFunctionTerm, BoxTerm, Application, TypeApplication, Unboxing, Let, Primitive}
use Rattle.cc_core.specs.Terms.{Conditional, Operation, Boundary, Leave}
use Rattle.cc_core.specs.Contexts.{TermEntry, Context}
use Rattle.cc_core.specs.Substitution.{single}
use Rattle.cc_core.specs.Places.{Places, Alone, Around, Between, spots_at}
use Rattle.cc_checking.specs.ComparisonExamples.{number, nothing, printing, first, second, parameter, with_console}
use Rattle.cc_checking.specs.ExampleChecks.{place, defined, from_nothing, console}
use Rattle.cc_checking.specs.Verdicts.{Definition}

-- a console, and then a counter: the devices of these definitions, where nothing else is said
abbrev pub with_devices : Context
with_devices = TermEntry (BaseShape bases.Counter) (single Cap) ∷ with_console

-- both devices
abbrev pub both_devices : Set
both_devices = union (single first) (single second)

-- a definition whose text may go on over several lines
abbrev pub defined_at : Place → Note → Term → Places → Definition
defined_at name_at note right places =
    record { name_at = name_at; note = note; recursive = false; right = right; places = places }

-- a term that starts at the place, and has no part and no operand
abbrev pub leaf : Place → Places
leaf at = Alone (spots_at at at at)

-- one that has one part
abbrev pub around : Place → Places → Places
around at part = Around (spots_at at at at) part

-- one with two operands at these places, and none of its parts
abbrev pub operands : Place → Place → Place → Places
operands at one_place other_place = Alone (spots_at at one_place other_place)

-- a let at the place; the word `val`, or else the operand that is named, stands at the second place
abbrev pub let_at : Place → Place → Places → Places → Places
let_at at named_at right body = Between (spots_at at named_at at) right body

-- a number
abbrev pub numeral : ℕ → Term
numeral value = LiteralTerm (NumberLiteral (pos value))

-- a function that prints its argument on the console at the position
abbrev pub printing_on : Var → Term
printing_on variable = FunctionTerm number empty (Operation operations.Print variable (Some (Bound 0)))

-- its places, from the places where it starts, where the console stands, and where its argument stands
abbrev pub printing_at : Place → Place → Place → Places
printing_at at receiver argument = around at (operands receiver receiver argument)

-- the function applied to the number: the number is named
abbrev pub applied_to : ℕ → Var → Term
applied_to value function = Let Absent (numeral value) (Application function (Bound 0))

-- its places, from those of the function and of the number
abbrev pub applied_at : Place → Place → Places
applied_at at argument = let_at at argument (leaf argument) (operands at at argument)

-- def f: (x: Int) -> Unit = fun (x: Int) => out.print(x)
abbrev pub pure_printer : Definition
pure_printer =
    defined (Written printing empty) (printing_on (Free 0)) (printing_at (place 1 27) (place 1 43) (place 1 53))

-- def f = fun (u: Unit) =>
--   val b = (val c: ((x: Int) -> Unit)^{cap} = fun (x: Int) => out.print(x); box c);
--   (unbox b)(5)
abbrev pub content_of_cap : Definition
content_of_cap =
    defined Absent
    (FunctionTerm nothing empty
    (Let Absent (Let (Written printing (single Cap)) (printing_on (Free 0)) (BoxTerm (Bound 0)))
    (Let Absent (Unboxing None (Bound 0)) (applied_to 5 (Bound 1)))))
    (around (place 1 9)
    (let_at (place 2 3) (place 2 3)
    (let_at (place 2 11) (place 2 12) (printing_at (place 2 46) (place 2 62) (place 2 72)) (leaf (place 2 76)))
    (let_at (place 3 3) (place 3 3) (operands (place 3 3) (place 3 10) (place 3 4))
    (applied_at (place 3 3) (place 3 13)))))

-- def g = fun (c: Console^{cap}) =>
--   val p = fun (x: Int) => c.print(x);
--   val q = fun (h: ((y: Int) -> Unit)^{p}) => p(1);
--   q
abbrev pub widened_and_narrowed : Definition
widened_and_narrowed =
    defined Absent
    (FunctionTerm console (single Cap)
    (Let Absent (printing_on (Bound 1))
    (Let Absent (FunctionTerm printing (single parameter) (applied_to 1 (Bound 2))) (VariableTerm (Bound 0)))))
    (around (place 1 9)
    (let_at (place 2 3) (place 2 3) (printing_at (place 2 11) (place 2 27) (place 2 35))
    (let_at (place 3 3) (place 3 3) (around (place 3 11) (applied_at (place 3 46) (place 3 48))) (leaf (place 4 3)))))

-- def f = fun (u: Unit) =>
--   boundary [(v: Unit) -> Unit] z =>
--     val k = fun (v: Unit) => v;
--     fun (v: Unit) => exit [Unit] (z, k)
abbrev pub exit_that_would_leave : Definition
exit_that_would_leave =
    defined Absent
    (FunctionTerm nothing empty
    (Boundary (from_nothing nothing empty)
    (Let Absent (FunctionTerm nothing empty (VariableTerm (Bound 0)))
    (FunctionTerm nothing empty (Leave nothing empty (Bound 2) (Bound 1))))))
    (around (place 1 9)
    (around (place 2 3)
    (let_at (place 3 5) (place 3 5) (around (place 3 13) (leaf (place 3 30)))
    (around (place 4 5) (operands (place 4 22) (place 4 35) (place 4 38))))))

-- def f = fun (u: Unit) =>
--   boundary [Box[(v: Unit) -> Unit]] z => box (fun (v: Unit) => val w = z; v)
abbrev pub boxed_exit_that_would_leave : Definition
boxed_exit_that_would_leave =
    defined Absent
    (FunctionTerm nothing empty
    (Boundary (BoxShape (from_nothing nothing empty) empty)
    (Let Absent (FunctionTerm nothing empty (Let Absent (VariableTerm (Bound 1)) (VariableTerm (Bound 1))))
    (BoxTerm (Bound 0)))))
    (around (place 1 9)
    (around (place 2 3)
    (let_at (place 2 42) (place 2 46)
    (around (place 2 46) (let_at (place 2 64) (place 2 64) (leaf (place 2 72)) (leaf (place 2 75))))
    (leaf (place 2 42)))))

-- a parameter whose set is omitted is applied to the number
abbrev pub with_omitted_set : ℕ → Term → Term
with_omitted_set hole body = FunctionTerm printing (single (Hole hole)) body

-- def main = fun (u: Unit) =>
--   val twice = fun (h: ((x: Int) -> Unit)^?) => val w = h(1); h(2);
--   val p = fun (x: Int) => out.print(x);
--   val q = fun (x: Int) => val n = hits.tick(); unit;
--   val a = twice(p);
--   val b = twice(q);
--   twice
abbrev pub called_twice : Definition
called_twice =
    defined Absent
    (FunctionTerm nothing empty
    (Let Absent (with_omitted_set 0 (Let Absent (applied_to 1 (Bound 1)) (applied_to 2 (Bound 2))))
    (Let Absent (printing_on (Free 0))
    (Let Absent
    (FunctionTerm number empty (Let Absent (Operation operations.Tick (Free 1) None) (LiteralTerm UnitLiteral)))
    (Let Absent (Application (Bound 2) (Bound 1))
    (Let Absent (Application (Bound 3) (Bound 1)) (VariableTerm (Bound 4))))))))
    (around (place 1 12)
    (let_at (place 2 3) (place 2 3)
    (around (place 2 15)
    (let_at (place 2 48) (place 2 48) (applied_at (place 2 56) (place 2 58)) (applied_at (place 2 62) (place 2 64))))
    (let_at (place 3 3) (place 3 3) (printing_at (place 3 11) (place 3 27) (place 3 37))
    (let_at (place 4 3) (place 4 3)
    (around (place 4 11) (let_at (place 4 27) (place 4 27) (leaf (place 4 35)) (leaf (place 4 48))))
    (let_at (place 5 3) (place 5 3) (operands (place 5 11) (place 5 11) (place 5 17))
    (let_at (place 6 3) (place 6 3) (operands (place 6 11) (place 6 11) (place 6 17)) (leaf (place 7 3))))))))

-- def main = fun (c: Console^{cap}) =>
--   val a = fun (h: ((x: Int) -> Unit)^?) => h(1);
--   val b = fun (k: ((x: Int) -> Unit)^?) => a(k);
--   val d = fun (x: Int) => c.print(x);
--   val w = b(d);
--   a
-- One omitted set depends on the other.
abbrev pub depending : Definition
depending =
    defined Absent
    (FunctionTerm console (single Cap)
    (Let Absent (with_omitted_set 0 (applied_to 1 (Bound 1)))
    (Let Absent (with_omitted_set 1 (Application (Bound 1) (Bound 0)))
    (Let Absent (printing_on (Bound 3))
    (Let Absent (Application (Bound 1) (Bound 0)) (VariableTerm (Bound 3)))))))
    (around (place 1 12)
    (let_at (place 2 3) (place 2 3) (around (place 2 11) (applied_at (place 2 44) (place 2 46)))
    (let_at (place 3 3) (place 3 3) (around (place 3 11) (operands (place 3 44) (place 3 44) (place 3 46)))
    (let_at (place 4 3) (place 4 3) (printing_at (place 4 11) (place 4 27) (place 4 35))
    (let_at (place 5 3) (place 5 3) (operands (place 5 11) (place 5 11) (place 5 13)) (leaf (place 6 3)))))))

-- the same without the line of w
abbrev pub not_depending : Definition
not_depending =
    defined Absent
    (FunctionTerm console (single Cap)
    (Let Absent (with_omitted_set 0 (applied_to 1 (Bound 1)))
    (Let Absent (with_omitted_set 1 (Application (Bound 1) (Bound 0)))
    (Let Absent (printing_on (Bound 3)) (VariableTerm (Bound 2))))))
    (around (place 1 12)
    (let_at (place 2 3) (place 2 3) (around (place 2 11) (applied_at (place 2 44) (place 2 46)))
    (let_at (place 3 3) (place 3 3) (around (place 3 11) (operands (place 3 44) (place 3 44) (place 3 46)))
    (let_at (place 4 3) (place 4 3) (printing_at (place 4 11) (place 4 27) (place 4 35)) (leaf (place 5 3))))))

-- def main = fun (c: Console^{cap}) =>
--   val f = fun (h: ((x: Int) -> Unit)^?) =>
--     val b = box h; (unbox {out} b)(1);
--   val d = fun (x: Int) => c.print(x);
-- and a last line, which is given with its places
abbrev pub opened_under_console : Term → Places → Definition
opened_under_console last places =
    defined Absent
    (FunctionTerm console (single Cap)
    (Let Absent
    (with_omitted_set 0
    (Let Absent (BoxTerm (Bound 0)) (Let Absent (Unboxing (Some (single first)) (Bound 0)) (applied_to 1 (Bound 1)))))
    (Let Absent (printing_on (Bound 2)) last)))
    (around (place 1 12)
    (let_at (place 2 3) (place 2 3)
    (around (place 2 11)
    (let_at (place 3 5) (place 3 5) (leaf (place 3 13))
    (let_at (place 3 20) (place 3 20) (operands (place 3 20) (place 3 33) (place 3 21))
    (applied_at (place 3 20) (place 3 36)))))
    (let_at (place 4 3) (place 4 3) (printing_at (place 4 11) (place 4 27) (place 4 35)) places)))

--   f(d)
abbrev pub opened_for_a_parameter : Definition
opened_for_a_parameter =
    opened_under_console (Application (Bound 1) (Bound 0)) (operands (place 5 3) (place 5 3) (place 5 5))

--   f
abbrev pub opened_for_nothing : Definition
opened_for_nothing = opened_under_console (VariableTerm (Bound 1)) (leaf (place 5 3))

-- functions from numbers to numbers
abbrev pub counting : Shape
counting = FunctionShape number empty number empty

-- def rec down: (n: Int) -> Int = fun (n: Int) => if [Int] n < 1 then 0 else down(n - 1)
abbrev pub counting_down : Definition
counting_down =
    record {
      name_at = place 1 9;
      note = Written counting empty;
      recursive = true;
      right =
          FunctionTerm number empty
          (Let Absent (Let Absent (numeral 1) (Primitive operators.Less (Bound 1) (Bound 0)))
          (Conditional (Written number empty) (Bound 0) (numeral 0)
          (Let Absent (Let Absent (numeral 1) (Primitive operators.Sub (Bound 2) (Bound 0)))
          (Application (Free 2) (Bound 0)))));
      places =
          around (place 1 33)
          (let_at (place 1 49) (place 1 58)
          (let_at (place 1 58) (place 1 62) (leaf (place 1 62)) (operands (place 1 58) (place 1 58) (place 1 62)))
          (Between (spots_at (place 1 49) (place 1 58) (place 1 49)) (leaf (place 1 69))
          (let_at (place 1 76) (place 1 81)
          (let_at (place 1 81) (place 1 85) (leaf (place 1 85)) (operands (place 1 81) (place 1 81) (place 1 85)))
          (operands (place 1 76) (place 1 76) (place 1 81)))));
    }

-- the context after it
abbrev pub after_down : Context
after_down = TermEntry counting empty ∷ with_devices

-- def main = fun (u: Unit) => down(3)
abbrev pub counting_from_three : Definition
counting_from_three =
    defined Absent (FunctionTerm nothing empty (applied_to 3 (Free 2)))
    (around (place 1 12) (applied_at (place 1 29) (place 1 34)))

-- the context after both
abbrev pub after_main : Context
after_main = TermEntry (from_nothing number empty) empty ∷ after_down

-- def rec loop: ((u: Unit) -> Unit)^{out} = fun (u: Unit) => val w = out.print(1); loop(u)
abbrev pub printing_for_ever : Definition
printing_for_ever =
    record {
      name_at = place 1 9;
      note = Written (from_nothing nothing empty) (single first);
      recursive = true;
      right =
          FunctionTerm nothing empty
          (Let Absent (Let Absent (numeral 1) (Operation operations.Print (Free 0) (Some (Bound 0))))
          (Application (Free 4) (Bound 1)));
      places =
          around (place 1 43)
          (let_at (place 1 60) (place 1 60)
          (let_at (place 1 68) (place 1 78) (leaf (place 1 78)) (operands (place 1 68) (place 1 68) (place 1 78)))
          (operands (place 1 82) (place 1 82) (place 1 87)));
    }

-- the function h is applied to f: its body, where the set of what it takes is given
abbrev pub passed_to : Set → Term
passed_to set =
    FunctionTerm nothing empty
    (Let Absent
    (FunctionTerm (from_nothing nothing empty) set
    (Let Absent (LiteralTerm UnitLiteral) (Application (Bound 1) (Bound 0))))
    (Application (Bound 0) (Free 2)))

-- def rec f: (u: Unit) -> Unit = fun (u: Unit) => val h = fun (k: ((v: Unit) -> Unit)^?) => k(unit); h(f)
abbrev pub passing_itself : Definition
passing_itself =
    record {
      name_at = place 1 9;
      note = Written (from_nothing nothing empty) empty;
      recursive = true;
      right = passed_to (single (Hole 0));
      places =
          around (place 1 32)
          (let_at (place 1 49) (place 1 49) (around (place 1 57) (applied_at (place 1 91) (place 1 93)))
          (operands (place 1 100) (place 1 100) (place 1 102)));
    }

-- def id = fun [X <: Any] => fun (x: X) => x
abbrev pub identity : Definition
identity =
    defined Absent (TypeFunctionTerm AnyShape (FunctionTerm (TypeVariable (Bound 0)) empty (VariableTerm (Bound 0))))
    (around (place 1 10) (around (place 1 28) (leaf (place 1 42))))

-- the shape of what the identity gives for a type variable
abbrev pub identity_shape : Shape
identity_shape =
    TypeFunctionShape AnyShape
    (FunctionShape (TypeVariable (Bound 0)) empty (TypeVariable (Bound 1)) (single parameter)) empty

-- the context after it, and after a definition f: ((x: Int) -> Int)^{out}
abbrev pub after_identity : Context
after_identity = TermEntry counting (single first) ∷ TermEntry identity_shape empty ∷ with_devices

-- def main = fun (u: Unit) => val g = id[Box[((x: Int) -> Int)^{out}]]; (unbox {out} (g(box f)))(3)
abbrev pub opened_after_identity : Definition
opened_after_identity =
    defined Absent
    (FunctionTerm nothing empty
    (Let Absent (TypeApplication (Free 2) (BoxShape counting (single first)))
    (Let Absent
    (Let Absent (Let Absent (BoxTerm (Free 3)) (Application (Bound 1) (Bound 0)))
    (Unboxing (Some (single first)) (Bound 0)))
    (applied_to 3 (Bound 1)))))
    (around (place 1 12)
    (let_at (place 1 29) (place 1 29) (operands (place 1 37) (place 1 37) (place 1 40))
    (let_at (place 1 71) (place 1 71)
    (let_at (place 1 71) (place 1 84)
    (let_at (place 1 84) (place 1 87) (leaf (place 1 87)) (operands (place 1 84) (place 1 85) (place 1 87)))
    (operands (place 1 71) (place 1 84) (place 1 72)))
    (applied_at (place 1 71) (place 1 96)))))

-- def main = fun (u: Unit) =>
--   val r = boundary [Int] a => val s = boundary [Int] b => exit [Int] (a, 4); s + 100;
--   out.print(r)
abbrev pub nested_boundaries : Definition
nested_boundaries =
    defined Absent
    (FunctionTerm nothing empty
    (Let Absent
    (Boundary number
    (Let Absent (Boundary number (Let Absent (numeral 4) (Leave number empty (Bound 2) (Bound 0))))
    (Let Absent (numeral 100) (Primitive operators.Add (Bound 1) (Bound 0)))))
    (Operation operations.Print (Free 0) (Some (Bound 0)))))
    (around (place 1 12)
    (let_at (place 2 3) (place 2 3)
    (around (place 2 11)
    (let_at (place 2 31) (place 2 31)
    (around (place 2 39)
    (let_at (place 2 59) (place 2 74) (leaf (place 2 74)) (operands (place 2 59) (place 2 71) (place 2 74))))
    (let_at (place 2 78) (place 2 82) (leaf (place 2 82)) (operands (place 2 78) (place 2 78) (place 2 82)))))
    (operands (place 3 3) (place 3 3) (place 3 13))))

-- the context after definitions f: ((x: Int) -> Unit)^{out} and g: ((x: Int) -> Unit)^{hits}
abbrev pub after_two : Context
after_two = TermEntry printing (single second) ∷ TermEntry printing (single first) ∷ with_devices

-- def c = fun (t: Bool) => if [((x: Int) -> Unit)^?] t then f else g
abbrev pub chosen : Definition
chosen =
    defined Absent
    (FunctionTerm (BaseShape bases.Bool) empty
    (Conditional (Own printing) (Bound 0) (VariableTerm (Free 2)) (VariableTerm (Free 3))))
    (around (place 1 9)
    (Between (spots_at (place 1 26) (place 1 52) (place 1 26)) (leaf (place 1 59)) (leaf (place 1 66))))

-- functions of functions of functions of numbers, so many times
abbrev pub tower : ℕ → Shape
tower zero = number
tower (suc height) = FunctionShape (tower height) empty (tower height) empty

-- def a = fun (x: W) => unit
-- where W is a tower of so many arrows
abbrev pub taking_tower : ℕ → Definition
taking_tower height =
    defined Absent (FunctionTerm (tower height) empty (LiteralTerm UnitLiteral))
    (around (place 1 9) (leaf (place 2 1)))

-- def a = fun (u: Unit) => fun (x: W) => unit
abbrev pub taking_tower_inside : ℕ → Definition
taking_tower_inside height =
    defined Absent (FunctionTerm nothing empty (FunctionTerm (tower height) empty (LiteralTerm UnitLiteral)))
    (around (place 1 9) (around (place 1 26) (leaf (place 2 1))))

-- def a = fun (x: Unit) => x(x)
abbrev pub unit_applied : Definition
unit_applied =
    defined Absent (FunctionTerm nothing empty (Application (Bound 0) (Bound 0)))
    (around (place 1 9) (operands (place 1 26) (place 1 26) (place 1 28)))

-- def a = fun (x: Unit) => val y = 1; fun [X <: Box[Int^{y}]] => unit
abbrev pub name_in_bound : Definition
name_in_bound =
    defined Absent
    (FunctionTerm nothing empty
    (Let Absent (numeral 1) (TypeFunctionTerm (BoxShape number (single parameter)) (LiteralTerm UnitLiteral))))
    (around (place 1 9)
    (let_at (place 1 26) (place 1 26) (leaf (place 1 34)) (around (place 1 37) (leaf (place 1 64)))))

-- def a = fun (x: Unit) => val y: Int = x; x(x)
-- The type that is written is compared before the body is inferred.
abbrev pub wrong_twice : Definition
wrong_twice =
    defined Absent
    (FunctionTerm nothing empty
    (Let (Written number empty) (VariableTerm (Bound 0)) (Application (Bound 1) (Bound 1))))
    (around (place 1 9)
    (let_at (place 1 26) (place 1 26) (leaf (place 1 39)) (operands (place 1 42) (place 1 42) (place 1 44))))

-- def a = fun (x: Unit) => val f: (i: Int) -> Unit = fun (i: Int) => out.print(i); x(x)
-- All that is asked is judged after the whole right side is inferred.
abbrev pub impure_and_wrong : Definition
impure_and_wrong =
    defined Absent
    (FunctionTerm nothing empty
    (Let (Written printing empty) (printing_on (Free 0)) (Application (Bound 1) (Bound 1))))
    (around (place 1 9)
    (let_at (place 1 26) (place 1 26) (printing_at (place 1 52) (place 1 68) (place 1 78))
    (operands (place 1 82) (place 1 82) (place 1 84))))
