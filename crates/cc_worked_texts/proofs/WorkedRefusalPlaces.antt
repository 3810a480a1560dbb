-- Where refusals of definitions stand, each shown by a text in which the places that a construct has are apart.
use Rattle.std.proofs.Common.{refl, codes, [], ◌∷◌, ◌++◌}
use Rattle.cc_base.specs.declared.code.Code.TheVariants.{E13, E14, E15, E16, E17, E18}
use Rattle.cc_worked_texts.specs.TextVerdicts.{place, repeated, tower, lines}
use Rattle.cc_worked_texts.specs.RefusalPlaces as example
use Rattle.cc_worked_texts.proofs.ComputedModules.{text_computing, refused}

pub heads : example.HeadPlaces
unfolding text_computing
heads = record {
  applied = refused 9 (codes "def a = fun (x: Unit) => (x(x))") E13 (place 1 27) refl;
  applied_to_a_shape = refused 9 (codes "def a = fun (x: Unit) => (x[Int])") E13 (place 1 27) refl;
  opened = refused 9 (codes "def a = fun (x: Unit) => (unbox x)") E13 (place 1 33) refl;
  operated = refused 9 (codes "def a = fun (x: Unit) => (x.print(x))") E13 (place 1 27) refl;
  left = refused 9 (codes "def a = fun (z: Int) => exit [Int] (z, z)(z)") E13 (place 1 37) refl;
  left_with_units = refused 9 (codes "def a = fun (x: Unit) => exit [Int] (x, x)") E13 (place 1 38) refl;
  named = refused 9 (codes "def a = fun (x: Unit) => ((val q = 1; q)(2))") E13 (place 1 27) refl;
}

pub operands : example.OperandPlaces
unfolding text_computing
operands = record {
  left_side = refused 9 (codes "def a = fun (x: Unit) => (x + x)") E14 (place 1 27) refl;
  right_side = refused 9 (codes "def a = fun (x: Unit) => (1 + x)") E14 (place 1 31) refl;
  argument = refused 9 (codes "def a = fun (f: (x: Int) -> Int) => (f(out))") E14 (place 1 40) refl;
  shape = refused 9 (codes "def a = fun (f: [X <: Int] -> Int) => (f[Bool])") E14 (place 1 42) refl;
  condition = refused 9 (codes "def a = fun (x: Unit) => (if [Int] x then 1 else 2)") E14 (place 1 36) refl;
  condition_of_an_omitted_set = refused 9 (codes "def a = fun (x: Unit) => (if [Int^?] x then 1 else 2)") E14 (place 1 38) refl;
  count = refused 9 (codes "def a = fun (x: Unit) => (repeat(x, x))") E14 (place 1 34) refl;
  repeated_function = refused 9 (codes "def a = fun (x: Unit) => (repeat(1, x))") E14 (place 1 37) refl;
  repeated_number = refused 9 (codes "def a = fun (z: Int) => repeat(z, z)[Int]") E14 (place 1 35) refl;
  printed = refused 9 (codes "def a = fun (x: Unit) => (out.print(x))") E14 (place 1 37) refl;
  said = refused 9 (codes "def a = fun (x: Int) => (out.say(x))") E14 (place 1 34) refl;
  given_to_an_exit = refused 9 (codes "def a = fun (x: Unit) => boundary [Int] z => (exit [Int] (z, x))") E14 (place 1 62) refl;
}

pub parts : example.PartPlaces
unfolding text_computing
parts = record {
  first_branch = refused 9 (codes "def a = fun (x: Unit) => (if [Int] true then x else 2)") E14 (place 1 46) refl;
  second_branch = refused 9 (codes "def a = fun (x: Unit) => (if [Int] true then 1 else x)") E14 (place 1 53) refl;
  first_branch_of_an_omitted_set = refused 9 (codes "def a = fun (x: Unit) => (if [Int^?] true then x else 2)") E14 (place 1 48) refl;
  second_branch_of_an_omitted_set = refused 9 (codes "def a = fun (x: Unit) => (if [Int^?] true then 1 else x)") E14 (place 1 55) refl;
  body_of_a_boundary = refused 9 (codes "def a = fun (x: Unit) => (boundary [Int] z => x)") E14 (place 1 47) refl;
  body_in_parentheses = refused 9 (codes "def a = fun (x: Unit) => (boundary [Int] z => (val q = x; q))") E14 (place 1 47) refl;
}

pub sets : example.SetPlaces
unfolding text_computing
sets = record {
  argument = refused 9 (codes "def a = fun (f: (c: Console) -> Unit) => (f(out))") E15 (place 1 45) refl;
  opened = refused 9 (codes "def a = fun (b: Box[Int^{cap}]) => (unbox {out} b)") E15 (place 1 49) refl;
  cap_is_written = refused 9 (codes "def a = fun (b: Box[Int^{out}]) => (unbox {cap} b)") E16 (place 1 37) refl;
  cap_is_written_and_inside = refused 9 (codes "def a = fun (b: Box[Int^{cap}]) => (unbox {cap} b)") E16 (place 1 37) refl;
  cap_is_inside = refused 9 (codes "def a = fun (b: Box[Int^{cap}]) => (unbox b)") E16 (place 1 37) refl;
  right_side_of_a_val = refused 9 (codes "def a = fun (x: Unit) => (val c: Console = out; 1)") E15 (place 1 44) refl;
  first_branch = refused 9 (codes "def a = fun (x: Unit) => (if [Console] true then out else out)") E15 (place 1 50) refl;
  second_branch = refused 9 (codes "def a = fun (c: Console^{cap}) => (if [Console^{out}] true then out else c)") E15 (place 1 74) refl;
  body_of_a_boundary = refused 9 (codes "def a = fun (x: Unit) => (boundary [Console] z => out)") E15 (place 1 51) refl;
  given_to_an_exit = refused 9 (codes "def a = fun (x: Unit) => boundary [Console] z => (exit [Console] (z, out))") E15 (place 1 70) refl;
}

pub lets : example.LetPlaces
unfolding text_computing
lets = record {
  right_side = refused 9 (codes "def a = fun (x: Unit) => (val y: Int = x; y(2))") E14 (place 1 40) refl;
  right_side_of_an_omitted_set = refused 9 (codes "def a = fun (x: Unit) => (val y: Int^? = x; y(2))") E14 (place 1 42) refl;
  bound_by_val = refused 9 (codes "def a = fun (x: Unit) => (val y = 1; fun [X <: Box[Int^{y}]] => unit)") E17 (place 1 27) refl;
  named_operand = refused 9 (codes "def a = fun (h: (n: Int) -> [X <: Box[Int^{n}]] -> Unit) => h(1 + 1)") E17 (place 1 63) refl;
  named_operand_in_parentheses = refused 9 (codes "def a = fun (h: (n: Int) -> [X <: Box[Int^{n}]] -> Unit) => (h((1 + 1)))") E17 (place 1 64) refl;
}

pub sizes : example.SizePlaces
unfolding text_computing
sizes = record {
  whole = refused 9 (codes "def a = fun (f: [X <: Any] -> " ++ tower 6 (codes "X") ++ codes ") => (f[" ++ tower 5 (codes "Int") ++ codes "])") E18 (place 1 9) refl;
  part = refused 9 (codes "def a = fun (f: [X <: Any] -> " ++ tower 6 (codes "X") ++ codes ") => (f[Box[" ++ tower 5 (codes "Int") ++ codes "]])") E18 (place 1 667) refl;
  bound_comes_first = refused 9 (codes "def a = fun (f: [X <: Int] -> " ++ tower 6 (codes "X") ++ codes ") => (f[Box[" ++ tower 5 (codes "Int") ++ codes "]])") E14 (place 1 670) refl;
  boxed = refused 9 (codes "def a = fun (f: [X <: Any] -> " ++ tower 6 (codes "X") ++ codes ") => (val y = f[" ++ tower 5 (codes "Int") ++ codes "]; (box y))") E18 (place 1 1056) refl;
  greatest = refused 9 (codes "def a = fun (x: Unit) => val g = fun (f: [X <: Any] -> " ++ tower 6 (codes "X") ++ codes ") => fun (u: " ++ repeated 30 (codes "Box[") ++ tower 4 (codes "Int") ++ repeated 30 (codes "]") ++ codes ") => f[" ++ repeated 29 (codes "Box[") ++ tower 4 (codes "Int") ++ repeated 29 (codes "]") ++ codes "]; x(x)") E13 (place 1 1371) refl;
  too_large = refused 9 (codes "def a = fun (x: Unit) => val g = fun (f: [X <: Any] -> " ++ tower 6 (codes "X") ++ codes ") => fun (u: " ++ repeated 31 (codes "Box[") ++ tower 4 (codes "Int") ++ repeated 31 (codes "]") ++ codes ") => f[" ++ repeated 29 (codes "Box[") ++ tower 4 (codes "Int") ++ repeated 29 (codes "]") ++ codes "]; x(x)") E18 (place 1 34) refl;
}

pub definitions : example.DefinitionPlaces
unfolding text_computing
definitions = record {
  written_shape = refused 9 (codes "def a: [X <: Any] -> Int^{out} = 1") E14 (place 1 34) refl;
  written_set = refused 9 (codes "def f: (u: Unit) -> Unit = fun (u: Unit) => out.print(1)") E15 (place 1 28) refl;
  written_for_itself = refused 9 (codes "def rec a: (x: Unit) -> Unit = fun (x: Int) => out.print(x)") E14 (place 1 32) refl;
  set_written_for_itself = refused 9 (codes "def rec a: (u: Unit) -> Unit = fun (u: Unit) => out.print(1)") E15 (place 1 32) refl;
  name_in_a_bound = refused 9 (lines (codes "def f = fun (u: Unit) => out.print(1)" ∷ codes "def g = fun [X <: Box[Unit^{f}]] => unit" ∷ [])) E17 (place 2 5) refl;
  name_in_a_written_bound = refused 9 (lines (codes "def f = fun (u: Unit) => u" ∷ codes "def rec g: [X <: Box[Unit^{f}]] -> Unit = fun [X <: Box[Unit^{f}]] => unit" ∷ [])) E17 (place 2 9) refl;
}
