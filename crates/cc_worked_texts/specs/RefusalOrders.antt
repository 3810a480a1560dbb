-- What is refused first, where a text has more than one reason.
use Rattle.std.specs.Prelude.{codes, [], ◌∷◌, ◌++◌}
use Rattle.cc_base.specs.declared.code.Code.TheVariants.{E13, E14, E15}
use Rattle.cc_worked_texts.specs.TextVerdicts.{place, lines, Refuses}

-- Operands are named from left to right, before the construct that has them is looked at.
pub record OperandOrders : Type 0 where
  pub sides : Refuses (codes "def a = fun (x: Unit) => x(x) + x(1)") E13 (place 1 26)
  pub parts_of_a_repetition : Refuses (codes "def a = fun (x: Unit) => repeat(x(1), x(2))") E13 (place 1 33)
  pub parts_of_an_exit : Refuses (codes "def a = fun (x: Unit) => exit [Int] (x(1), x(2))") E13 (place 1 38)
  pub receiver_and_argument : Refuses (codes "def a = fun (x: Unit) => x(1).print(x(2))") E13 (place 1 26)
  pub inside_an_argument : Refuses (codes "def a = fun (x: Unit) => out.print(x(1)(2))") E13 (place 1 36)
  pub condition_and_branches : Refuses
      (codes "def a = fun (x: Unit) => if [Int] x(1) then x(2) else x(3)") E13 (place 1 35)

-- Each part is compared before the next is looked at, and a definition after its right side.
pub record PartOrders : Type 0 where
  pub condition_before_branches : Refuses
      (codes "def a = fun (x: Unit) => if [Int] x then x(x) else 1") E14 (place 1 35)
  pub first_branch_before_the_second : Refuses
      (codes "def a = fun (x: Unit) => if [Int] true then x else x(x)") E14 (place 1 45)
  pub first_branch_before_the_second_with_an_omitted_set : Refuses
      (codes "def a = fun (x: Unit) => if [Int^?] true then x else x(x)") E14 (place 1 47)
  pub right_side_before_body : Refuses (codes "def a = fun (x: Unit) => val y: Int = x(1); y(2)") E13 (place 1 39)
  pub written_type_before_body : Refuses (codes "def a = fun (x: Unit) => val y: Int = x; y(2)") E14 (place 1 39)
  pub body_before_what_is_written : Refuses (codes "def a: (x: Int) -> Int = fun (x: Unit) => x(1)") E13 (place 1 43)
  pub left_side_before_the_right : Refuses (codes "def a = fun (x: Unit) => x + x") E14 (place 1 26)
  pub count_before_function : Refuses (codes "def a = fun (x: Unit) => repeat(x, x)") E14 (place 1 33)

-- Sets are judged when all shapes match, the first that is asked first, and before the name of a definition is avoided.
pub record DemandOrders : Type 0 where
  pub shape_before_set : Refuses (codes "def a: Int = fun (x: Unit) => out.print(1)") E14 (place 1 14)
  pub shape_before_an_earlier_set : Refuses
      (codes "def a = fun (h: ((x: Int) -> Unit)^?) => fun (k: ((x: Int) -> Unit)^?) => val p: ((x: Int) -> "
      ++ codes "Unit)^{h} = k; h(p)")
      E14 (place 1 112)
  pub first_set : Refuses
      (lines (codes "def a = fun (c: Console^{cap}) =>"
      ∷ codes "  val f: (x: Int) -> Unit = fun (x: Int) => c.print(x);"
      ∷ codes "  val g: (x: Int) -> Unit = fun (x: Int) => out.print(x);"
      ∷ codes "  f" ∷ []))
      E15 (place 2 29)
  pub set_before_name : Refuses
      (lines (codes "def f = fun (u: Unit) => out.print(1)"
      ∷ codes "def g: [X <: Box[Unit^{f}]] -> Unit = fun [X <: Box[Unit^{f}]] => out.print(1)" ∷ []))
      E15 (place 2 39)
  pub set_after_what_is_inferred : Refuses
      (codes "def a = fun (x: Unit) => val f: (i: Int) -> Unit = fun (i: Int) => out.print(i); x(x)") E13 (place 1 82)
