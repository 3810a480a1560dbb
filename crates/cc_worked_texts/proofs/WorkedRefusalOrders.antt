-- What is refused first, where a text has more than one reason.
use Rattle.std.proofs.Common.{refl, codes, [], ◌∷◌, ◌++◌}
use Rattle.cc_base.specs.declared.code.Code.TheVariants.{E13, E14, E15}
use Rattle.cc_worked_texts.specs.TextVerdicts.{place, lines}
use Rattle.cc_worked_texts.specs.RefusalOrders as example
use Rattle.cc_worked_texts.proofs.ComputedModules.{text_computing, refused}

pub operands : example.OperandOrders
unfolding text_computing
operands = record {
  sides = refused 9 (codes "def a = fun (x: Unit) => x(x) + x(1)") E13 (place 1 26) refl;
  parts_of_a_repetition = refused 9 (codes "def a = fun (x: Unit) => repeat(x(1), x(2))") E13 (place 1 33) refl;
  parts_of_an_exit = refused 9 (codes "def a = fun (x: Unit) => exit [Int] (x(1), x(2))") E13 (place 1 38) refl;
  receiver_and_argument = refused 9 (codes "def a = fun (x: Unit) => x(1).print(x(2))") E13 (place 1 26) refl;
  inside_an_argument = refused 9 (codes "def a = fun (x: Unit) => out.print(x(1)(2))") E13 (place 1 36) refl;
  condition_and_branches = refused 9 (codes "def a = fun (x: Unit) => if [Int] x(1) then x(2) else x(3)") E13 (place 1 35) refl;
}

pub parts : example.PartOrders
unfolding text_computing
parts = record {
  condition_before_branches = refused 9 (codes "def a = fun (x: Unit) => if [Int] x then x(x) else 1") E14 (place 1 35) refl;
  first_branch_before_the_second = refused 9 (codes "def a = fun (x: Unit) => if [Int] true then x else x(x)") E14 (place 1 45) refl;
  first_branch_before_the_second_with_an_omitted_set = refused 9 (codes "def a = fun (x: Unit) => if [Int^?] true then x else x(x)") E14 (place 1 47) refl;
  right_side_before_body = refused 9 (codes "def a = fun (x: Unit) => val y: Int = x(1); y(2)") E13 (place 1 39) refl;
  written_type_before_body = refused 9 (codes "def a = fun (x: Unit) => val y: Int = x; y(2)") E14 (place 1 39) refl;
  body_before_what_is_written = refused 9 (codes "def a: (x: Int) -> Int = fun (x: Unit) => x(1)") E13 (place 1 43) refl;
  left_side_before_the_right = refused 9 (codes "def a = fun (x: Unit) => x + x") E14 (place 1 26) refl;
  count_before_function = refused 9 (codes "def a = fun (x: Unit) => repeat(x, x)") E14 (place 1 33) refl;
}

pub demands : example.DemandOrders
unfolding text_computing
demands = record {
  shape_before_set = refused 9 (codes "def a: Int = fun (x: Unit) => out.print(1)") E14 (place 1 14) refl;
  shape_before_an_earlier_set = refused 9 (codes "def a = fun (h: ((x: Int) -> Unit)^?) => fun (k: ((x: Int) -> Unit)^?) => val p: ((x: Int) -> " ++ codes "Unit)^{h} = k; h(p)") E14 (place 1 112) refl;
  first_set = refused 9 (lines (codes "def a = fun (c: Console^{cap}) =>" ∷ codes "  val f: (x: Int) -> Unit = fun (x: Int) => c.print(x);" ∷ codes "  val g: (x: Int) -> Unit = fun (x: Int) => out.print(x);" ∷ codes "  f" ∷ [])) E15 (place 2 29) refl;
  set_before_name = refused 9 (lines (codes "def f = fun (u: Unit) => out.print(1)" ∷ codes "def g: [X <: Box[Unit^{f}]] -> Unit = fun [X <: Box[Unit^{f}]] => out.print(1)" ∷ [])) E15 (place 2 39) refl;
  set_after_what_is_inferred = refused 9 (codes "def a = fun (x: Unit) => val f: (i: Int) -> Unit = fun (i: Int) => out.print(i); x(x)") E13 (place 1 82) refl;
}
