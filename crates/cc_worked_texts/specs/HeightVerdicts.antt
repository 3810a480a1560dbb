-- Texts with trees of height 100, and with one level more.
use Rattle.std.specs.Prelude.{codes, [], ◌∷◌, ◌++◌}
use Rattle.cc_base.specs.declared.code.Code.TheVariants.{E04, E12, E14}
use Rattle.cc_worked_texts.specs.TextVerdicts.{place, repeated, Refuses, Accepts}

-- Each part of an expression makes it one higher than itself: 98 parentheses around a leaf are just low enough.
pub record PartHeights : Type 0 where
  pub right_side_of_a_val : Refuses
      (codes "def a = val x = " ++ repeated 98 (codes "(") ++ codes "1" ++ repeated 98 (codes ")") ++ codes "; x")
      E12 (place 1 9)
  pub right_side_of_a_val_of_one_more : Refuses
      (codes "def a = val x = " ++ repeated 99 (codes "(") ++ codes "1" ++ repeated 99 (codes ")") ++ codes "; x")
      E04 (place 1 115)
  pub body_of_a_val : Refuses
      (codes "def a = val x = 1; " ++ repeated 98 (codes "(") ++ codes "x" ++ repeated 98 (codes ")")) E12 (place 1 9)
  pub body_of_a_val_of_one_more : Refuses
      (codes "def a = val x = 1; " ++ repeated 99 (codes "(") ++ codes "x" ++ repeated 99 (codes ")"))
      E04 (place 1 118)
  pub type_of_a_val : Refuses
      (codes "def a = val x: " ++ repeated 98 (codes "(") ++ codes "Int" ++ repeated 98 (codes ")")
      ++ codes " = 1; x")
      E12 (place 1 9)
  pub type_of_a_val_of_one_more : Refuses
      (codes "def a = val x: " ++ repeated 99 (codes "(") ++ codes "Int" ++ repeated 99 (codes ")")
      ++ codes " = 1; x")
      E04 (place 1 114)
  pub type_of_a_parameter : Accepts
      (codes "def a = fun (x: " ++ repeated 98 (codes "(") ++ codes "Int" ++ repeated 98 (codes ")")
      ++ codes ") => 1")
      (codes "a: (_0: Int) -> Int" ∷ [])
  pub type_of_a_parameter_of_one_more : Refuses
      (codes "def a = fun (x: " ++ repeated 99 (codes "(") ++ codes "Int" ++ repeated 99 (codes ")")
      ++ codes ") => 1")
      E04 (place 1 115)
  pub body_of_a_function : Accepts
      (codes "def a = fun (x: Int) => " ++ repeated 98 (codes "(") ++ codes "1" ++ repeated 98 (codes ")"))
      (codes "a: (_0: Int) -> Int" ∷ [])
  pub body_of_a_function_of_one_more : Refuses
      (codes "def a = fun (x: Int) => " ++ repeated 99 (codes "(") ++ codes "1" ++ repeated 99 (codes ")"))
      E04 (place 1 123)
  pub bound : Accepts
      (codes "def a = fun [X <: " ++ repeated 98 (codes "(") ++ codes "Int" ++ repeated 98 (codes ")")
      ++ codes "] => 1")
      (codes "a: [_T0 <: Int] -> Int" ∷ [])
  pub bound_of_one_more : Refuses
      (codes "def a = fun [X <: " ++ repeated 99 (codes "(") ++ codes "Int" ++ repeated 99 (codes ")")
      ++ codes "] => 1")
      E04 (place 1 117)
  pub body_of_a_type_function : Accepts
      (codes "def a = fun [X <: Int] => " ++ repeated 98 (codes "(") ++ codes "1" ++ repeated 98 (codes ")"))
      (codes "a: [_T0 <: Int] -> Int" ∷ [])
  pub body_of_a_type_function_of_one_more : Refuses
      (codes "def a = fun [X <: Int] => " ++ repeated 99 (codes "(") ++ codes "1" ++ repeated 99 (codes ")"))
      E04 (place 1 125)
  pub condition : Refuses
      (codes "def a = if [Int] " ++ repeated 98 (codes "(") ++ codes "true" ++ repeated 98 (codes ")")
      ++ codes " then 1 else 2")
      E12 (place 1 9)
  pub condition_of_one_more : Refuses
      (codes "def a = if [Int] " ++ repeated 99 (codes "(") ++ codes "true" ++ repeated 99 (codes ")")
      ++ codes " then 1 else 2")
      E04 (place 1 116)
  pub first_branch : Refuses
      (codes "def a = if [Int] true then " ++ repeated 98 (codes "(") ++ codes "1" ++ repeated 98 (codes ")")
      ++ codes " else 2")
      E12 (place 1 9)
  pub first_branch_of_one_more : Refuses
      (codes "def a = if [Int] true then " ++ repeated 99 (codes "(") ++ codes "1" ++ repeated 99 (codes ")")
      ++ codes " else 2")
      E04 (place 1 126)
  pub second_branch : Refuses
      (codes "def a = if [Int] true then 1 else " ++ repeated 98 (codes "(") ++ codes "2"
      ++ repeated 98 (codes ")"))
      E12 (place 1 9)
  pub second_branch_of_one_more : Refuses
      (codes "def a = if [Int] true then 1 else " ++ repeated 99 (codes "(") ++ codes "2"
      ++ repeated 99 (codes ")"))
      E04 (place 1 133)
  pub shape_of_a_boundary : Refuses
      (codes "def a = boundary [" ++ repeated 98 (codes "(") ++ codes "Int" ++ repeated 98 (codes ")")
      ++ codes "] z => 1")
      E12 (place 1 9)
  pub shape_of_a_boundary_of_one_more : Refuses
      (codes "def a = boundary [" ++ repeated 99 (codes "(") ++ codes "Int" ++ repeated 99 (codes ")")
      ++ codes "] z => 1")
      E04 (place 1 117)
  pub body_of_a_boundary : Refuses
      (codes "def a = boundary [Int] z => " ++ repeated 98 (codes "(") ++ codes "1" ++ repeated 98 (codes ")"))
      E12 (place 1 9)
  pub body_of_a_boundary_of_one_more : Refuses
      (codes "def a = boundary [Int] z => " ++ repeated 99 (codes "(") ++ codes "1" ++ repeated 99 (codes ")"))
      E04 (place 1 127)
  pub content_of_a_box : Refuses
      (codes "def a = box " ++ repeated 98 (codes "(") ++ codes "1" ++ repeated 98 (codes ")")) E12 (place 1 9)
  pub content_of_a_box_of_one_more : Refuses
      (codes "def a = box " ++ repeated 99 (codes "(") ++ codes "1" ++ repeated 99 (codes ")")) E04 (place 1 111)
  pub opened : Refuses
      (codes "def a = unbox " ++ repeated 98 (codes "(") ++ codes "1" ++ repeated 98 (codes ")")) E12 (place 1 9)
  pub opened_of_one_more : Refuses
      (codes "def a = unbox " ++ repeated 99 (codes "(") ++ codes "1" ++ repeated 99 (codes ")")) E04 (place 1 113)
  pub opened_with_a_set : Refuses
      (codes "def a = unbox {out} " ++ repeated 98 (codes "(") ++ codes "1" ++ repeated 98 (codes ")"))
      E12 (place 1 9)
  pub opened_with_a_set_of_one_more : Refuses
      (codes "def a = unbox {out} " ++ repeated 99 (codes "(") ++ codes "1" ++ repeated 99 (codes ")"))
      E04 (place 1 119)
  pub function : Refuses
      (codes "def a = " ++ repeated 98 (codes "(") ++ codes "1" ++ repeated 98 (codes ")") ++ codes "(2)")
      E12 (place 1 9)
  pub function_of_one_more : Refuses
      (codes "def a = " ++ repeated 99 (codes "(") ++ codes "1" ++ repeated 99 (codes ")") ++ codes "(2)")
      E04 (place 1 208)
  pub argument : Refuses
      (codes "def a = out(" ++ repeated 98 (codes "(") ++ codes "1" ++ repeated 98 (codes ")") ++ codes ")")
      E12 (place 1 9)
  pub argument_of_one_more : Refuses
      (codes "def a = out(" ++ repeated 99 (codes "(") ++ codes "1" ++ repeated 99 (codes ")") ++ codes ")")
      E04 (place 1 111)
  pub type_function : Refuses
      (codes "def a = " ++ repeated 98 (codes "(") ++ codes "1" ++ repeated 98 (codes ")") ++ codes "[Int]")
      E12 (place 1 9)
  pub type_function_of_one_more : Refuses
      (codes "def a = " ++ repeated 99 (codes "(") ++ codes "1" ++ repeated 99 (codes ")") ++ codes "[Int]")
      E04 (place 1 208)
  pub receiver : Refuses
      (codes "def a = " ++ repeated 98 (codes "(") ++ codes "out" ++ repeated 98 (codes ")") ++ codes ".print(1)")
      E12 (place 1 9)
  pub receiver_of_one_more : Refuses
      (codes "def a = " ++ repeated 99 (codes "(") ++ codes "out" ++ repeated 99 (codes ")") ++ codes ".print(1)")
      E04 (place 1 210)
  pub printed : Refuses
      (codes "def a = out.print(" ++ repeated 98 (codes "(") ++ codes "1" ++ repeated 98 (codes ")") ++ codes ")")
      E12 (place 1 9)
  pub printed_of_one_more : Refuses
      (codes "def a = out.print(" ++ repeated 99 (codes "(") ++ codes "1" ++ repeated 99 (codes ")") ++ codes ")")
      E04 (place 1 117)
  pub ticked : Refuses
      (codes "def a = " ++ repeated 98 (codes "(") ++ codes "hits" ++ repeated 98 (codes ")") ++ codes ".tick()")
      E12 (place 1 9)
  pub ticked_of_one_more : Refuses
      (codes "def a = " ++ repeated 99 (codes "(") ++ codes "hits" ++ repeated 99 (codes ")") ++ codes ".tick()")
      E04 (place 1 211)
  pub left_side : Refuses
      (codes "def a = " ++ repeated 98 (codes "(") ++ codes "1" ++ repeated 98 (codes ")") ++ codes " + 2")
      E12 (place 1 9)
  pub left_side_of_one_more : Refuses
      (codes "def a = " ++ repeated 99 (codes "(") ++ codes "1" ++ repeated 99 (codes ")") ++ codes " + 2")
      E04 (place 1 209)
  pub right_side : Refuses
      (codes "def a = 1 + " ++ repeated 98 (codes "(") ++ codes "2" ++ repeated 98 (codes ")")) E12 (place 1 9)
  pub right_side_of_one_more : Refuses
      (codes "def a = 1 + " ++ repeated 99 (codes "(") ++ codes "2" ++ repeated 99 (codes ")")) E04 (place 1 111)
  pub left_of_less : Refuses
      (codes "def a = " ++ repeated 98 (codes "(") ++ codes "1" ++ repeated 98 (codes ")") ++ codes " < 2")
      E12 (place 1 9)
  pub left_of_less_of_one_more : Refuses
      (codes "def a = " ++ repeated 99 (codes "(") ++ codes "1" ++ repeated 99 (codes ")") ++ codes " < 2")
      E04 (place 1 209)
  pub right_of_times : Refuses
      (codes "def a = 1 * " ++ repeated 98 (codes "(") ++ codes "2" ++ repeated 98 (codes ")")) E12 (place 1 9)
  pub right_of_times_of_one_more : Refuses
      (codes "def a = 1 * " ++ repeated 99 (codes "(") ++ codes "2" ++ repeated 99 (codes ")")) E04 (place 1 111)
  pub type_of_an_exit : Refuses
      (codes "def a = exit [" ++ repeated 98 (codes "(") ++ codes "Int" ++ repeated 98 (codes ")")
      ++ codes "] (1, 2)")
      E12 (place 1 9)
  pub type_of_an_exit_of_one_more : Refuses
      (codes "def a = exit [" ++ repeated 99 (codes "(") ++ codes "Int" ++ repeated 99 (codes ")")
      ++ codes "] (1, 2)")
      E04 (place 1 113)
  pub exit : Refuses
      (codes "def a = exit [Int] (" ++ repeated 98 (codes "(") ++ codes "1" ++ repeated 98 (codes ")")
      ++ codes ", 2)")
      E12 (place 1 9)
  pub exit_of_one_more : Refuses
      (codes "def a = exit [Int] (" ++ repeated 99 (codes "(") ++ codes "1" ++ repeated 99 (codes ")")
      ++ codes ", 2)")
      E04 (place 1 119)
  pub value_of_an_exit : Refuses
      (codes "def a = exit [Int] (1, " ++ repeated 98 (codes "(") ++ codes "2" ++ repeated 98 (codes ")")
      ++ codes ")")
      E12 (place 1 9)
  pub value_of_an_exit_of_one_more : Refuses
      (codes "def a = exit [Int] (1, " ++ repeated 99 (codes "(") ++ codes "2" ++ repeated 99 (codes ")")
      ++ codes ")")
      E04 (place 1 122)
  pub count : Refuses
      (codes "def a = repeat(" ++ repeated 98 (codes "(") ++ codes "1" ++ repeated 98 (codes ")") ++ codes ", 2)")
      E12 (place 1 9)
  pub count_of_one_more : Refuses
      (codes "def a = repeat(" ++ repeated 99 (codes "(") ++ codes "1" ++ repeated 99 (codes ")") ++ codes ", 2)")
      E04 (place 1 114)
  pub repeated_function : Refuses
      (codes "def a = repeat(1, " ++ repeated 98 (codes "(") ++ codes "2" ++ repeated 98 (codes ")") ++ codes ")")
      E12 (place 1 9)
  pub repeated_function_of_one_more : Refuses
      (codes "def a = repeat(1, " ++ repeated 99 (codes "(") ++ codes "2" ++ repeated 99 (codes ")") ++ codes ")")
      E04 (place 1 117)

-- Each construct inside itself, as often as it may be.
pub record NestedHeights : Type 0 where
  pub shape_of_an_exit : Refuses
      (codes "def a: Exit[" ++ repeated 98 (codes "(") ++ codes "Int" ++ repeated 98 (codes ")") ++ codes "] = 1")
      E14 (place 1 216)
  pub shape_of_an_exit_of_one_more : Refuses
      (codes "def a: Exit[" ++ repeated 99 (codes "(") ++ codes "Int" ++ repeated 99 (codes ")") ++ codes "] = 1")
      E04 (place 1 111)
  pub content_of_a_box : Refuses
      (codes "def a: Box[" ++ repeated 98 (codes "(") ++ codes "Int" ++ repeated 98 (codes ")") ++ codes "] = 1")
      E14 (place 1 215)
  pub content_of_a_box_of_one_more : Refuses
      (codes "def a: Box[" ++ repeated 99 (codes "(") ++ codes "Int" ++ repeated 99 (codes ")") ++ codes "] = 1")
      E04 (place 1 110)
  pub parameter : Refuses
      (codes "def a: (x: " ++ repeated 98 (codes "(") ++ codes "Int" ++ repeated 98 (codes ")")
      ++ codes ") -> Int = 1")
      E14 (place 1 222)
  pub parameter_of_one_more : Refuses
      (codes "def a: (x: " ++ repeated 99 (codes "(") ++ codes "Int" ++ repeated 99 (codes ")")
      ++ codes ") -> Int = 1")
      E04 (place 1 110)
  pub result : Refuses
      (codes "def a: (x: Int) -> " ++ repeated 98 (codes "(") ++ codes "Int" ++ repeated 98 (codes ")")
      ++ codes " = 1")
      E14 (place 1 222)
  pub result_of_one_more : Refuses
      (codes "def a: (x: Int) -> " ++ repeated 99 (codes "(") ++ codes "Int" ++ repeated 99 (codes ")")
      ++ codes " = 1")
      E04 (place 1 118)
  pub bound_of_a_type : Refuses
      (codes "def a: [X <: " ++ repeated 98 (codes "(") ++ codes "Int" ++ repeated 98 (codes ")")
      ++ codes "] -> Int = 1")
      E14 (place 1 224)
  pub bound_of_a_type_of_one_more : Refuses
      (codes "def a: [X <: " ++ repeated 99 (codes "(") ++ codes "Int" ++ repeated 99 (codes ")")
      ++ codes "] -> Int = 1")
      E04 (place 1 112)
  pub result_of_a_type_function : Refuses
      (codes "def a: [X <: Int] -> " ++ repeated 98 (codes "(") ++ codes "Int" ++ repeated 98 (codes ")")
      ++ codes " = 1")
      E14 (place 1 224)
  pub result_of_a_type_function_of_one_more : Refuses
      (codes "def a: [X <: Int] -> " ++ repeated 99 (codes "(") ++ codes "Int" ++ repeated 99 (codes ")")
      ++ codes " = 1")
      E04 (place 1 120)
  pub type_of_a_recursive_definition : Refuses
      (codes "def rec a: " ++ repeated 99 (codes "(") ++ codes "Int" ++ repeated 99 (codes ")") ++ codes " = 1")
      E12 (place 1 216)
  pub type_of_a_recursive_definition_of_one_more : Refuses
      (codes "def rec a: " ++ repeated 100 (codes "(") ++ codes "Int" ++ repeated 100 (codes ")") ++ codes " = 1")
      E04 (place 1 111)
  pub set_behind_a_shape : Refuses
      (codes "def a: Box[" ++ repeated 98 (codes "(") ++ codes "Int" ++ repeated 98 (codes ")")
      ++ codes "^{out}] = 1")
      E14 (place 1 221)
  pub set_behind_a_shape_of_one_more : Refuses
      (codes "def a: Box[" ++ repeated 99 (codes "(") ++ codes "Int" ++ repeated 99 (codes ")")
      ++ codes "^{out}] = 1")
      E04 (place 1 110)
  pub calls : Refuses (codes "def a = 1" ++ repeated 99 (codes "(2)")) E12 (place 1 9)
  pub calls_of_one_more : Refuses (codes "def a = 1" ++ repeated 100 (codes "(2)")) E04 (place 1 307)
  pub type_calls : Refuses (codes "def a = 1" ++ repeated 99 (codes "[Int]")) E12 (place 1 9)
  pub type_calls_of_one_more : Refuses (codes "def a = 1" ++ repeated 100 (codes "[Int]")) E04 (place 1 505)
  pub reads : Refuses (codes "def a = 1" ++ repeated 99 (codes ".read()")) E12 (place 1 9)
  pub reads_of_one_more : Refuses (codes "def a = 1" ++ repeated 100 (codes ".read()")) E04 (place 1 703)
  pub products : Refuses (codes "def a = 1" ++ repeated 99 (codes " * 1")) E12 (place 1 9)
  pub products_of_one_more : Refuses (codes "def a = 1" ++ repeated 100 (codes " * 1")) E04 (place 1 407)
  pub differences_in_parentheses : Refuses
      (codes "def a = (1" ++ repeated 98 (codes " - 1") ++ codes ")") E12 (place 1 9)
  pub differences_in_parentheses_of_one_more : Refuses
      (codes "def a = (1" ++ repeated 99 (codes " - 1") ++ codes ")") E04 (place 1 404)
  -- a type and an expression are measured apart
  pub type_and_expression : Accepts
      (codes "def a: " ++ repeated 99 (codes "(") ++ codes "Int" ++ repeated 99 (codes ")") ++ codes " = "
      ++ repeated 99 (codes "(") ++ codes "1" ++ repeated 99 (codes ")"))
      (codes "a: Int" ∷ [])
  -- and so are definitions
  pub two_definitions : Accepts
      (codes "def a: " ++ repeated 99 (codes "(") ++ codes "Int" ++ repeated 99 (codes ")") ++ codes " = 1 def b: "
      ++ repeated 99 (codes "(") ++ codes "Int" ++ repeated 99 (codes ")") ++ codes " = 1")
      (codes "a: Int" ∷ codes "b: Int" ∷ [])

-- What goes on an expression is one higher than the highest part in front of it.
pub record LinkedHeights : Type 0 where
  -- the operand in parentheses has height 99, and 100 where there is one more
  pub written_type : Refuses
      (codes "def a = (val x: " ++ repeated 96 (codes "(") ++ codes "Int" ++ repeated 96 (codes ")")
      ++ codes " = 1; x) + 1")
      E12 (place 1 9)
  pub higher_written_type : Refuses
      (codes "def a = (val x: " ++ repeated 97 (codes "(") ++ codes "Int" ++ repeated 97 (codes ")")
      ++ codes " = 1; x) + 1")
      E04 (place 1 223)
  -- sets have no height
  pub set_of_a_written_type : Refuses
      (codes "def a = (val x: " ++ repeated 96 (codes "(") ++ codes "Int" ++ repeated 96 (codes ")")
      ++ codes "^{out, hits} = 1; x) + 1")
      E12 (place 1 9)
  -- each other part
  pub higher_right_side : Refuses
      (codes "def a = (val x = " ++ repeated 97 (codes "(") ++ codes "1" ++ repeated 97 (codes ")")
      ++ codes "; x) + 1")
      E04 (place 1 218)
  pub higher_body : Refuses
      (codes "def a = (val x = 1; " ++ repeated 97 (codes "(") ++ codes "x" ++ repeated 97 (codes ")")
      ++ codes ") + 1")
      E04 (place 1 218)
  pub higher_parameter : Refuses
      (codes "def a = (fun (x: " ++ repeated 97 (codes "(") ++ codes "Int" ++ repeated 97 (codes ")")
      ++ codes ") => 1)(2)")
      E04 (place 1 222)
  pub higher_bound : Refuses
      (codes "def a = (fun [X <: " ++ repeated 97 (codes "(") ++ codes "Int" ++ repeated 97 (codes ")")
      ++ codes "] => 1)[Int]")
      E04 (place 1 224)
  pub higher_condition : Refuses
      (codes "def a = (if [Int] " ++ repeated 97 (codes "(") ++ codes "true" ++ repeated 97 (codes ")")
      ++ codes " then 1 else 2) * 3")
      E04 (place 1 233)
  pub higher_first_branch : Refuses
      (codes "def a = (if [Int] true then " ++ repeated 97 (codes "(") ++ codes "1" ++ repeated 97 (codes ")")
      ++ codes " else 2) * 3")
      E04 (place 1 233)
  pub higher_second_branch : Refuses
      (codes "def a = (if [Int] true then 1 else " ++ repeated 97 (codes "(") ++ codes "2"
      ++ repeated 97 (codes ")") ++ codes ") * 3")
      E04 (place 1 233)
  pub higher_type_of_a_choice : Refuses
      (codes "def a = (if [" ++ repeated 97 (codes "(") ++ codes "Int" ++ repeated 97 (codes ")")
      ++ codes "] true then 1 else 2) * 3")
      E04 (place 1 233)
  pub higher_shape_of_a_boundary : Refuses
      (codes "def a = (boundary [" ++ repeated 97 (codes "(") ++ codes "Int" ++ repeated 97 (codes ")")
      ++ codes "] z => 1)[Int]")
      E04 (place 1 226)
  pub higher_body_of_a_boundary : Refuses
      (codes "def a = (boundary [Int] z => " ++ repeated 97 (codes "(") ++ codes "1" ++ repeated 97 (codes ")")
      ++ codes ")[Int]")
      E04 (place 1 226)
  pub count : Refuses
      (codes "def a = repeat(" ++ repeated 97 (codes "(") ++ codes "1" ++ repeated 97 (codes ")")
      ++ codes ", 2) + 1")
      E12 (place 1 9)
  pub higher_count : Refuses
      (codes "def a = repeat(" ++ repeated 98 (codes "(") ++ codes "1" ++ repeated 98 (codes ")")
      ++ codes ", 2) + 1")
      E04 (place 1 218)
  pub higher_function : Refuses
      (codes "def a = repeat(1, " ++ repeated 98 (codes "(") ++ codes "2" ++ repeated 98 (codes ")")
      ++ codes ") + 1")
      E04 (place 1 218)
  pub higher_argument : Refuses
      (codes "def a = 1(" ++ repeated 98 (codes "(") ++ codes "2" ++ repeated 98 (codes ")") ++ codes ")(3)")
      E04 (place 1 209)
  pub higher_shape : Refuses
      (codes "def a = 1[" ++ repeated 98 (codes "(") ++ codes "Int" ++ repeated 98 (codes ")") ++ codes "](3)")
      E04 (place 1 211)
  pub higher_type_of_an_exit : Refuses
      (codes "def a = exit [" ++ repeated 98 (codes "(") ++ codes "Int" ++ repeated 98 (codes ")")
      ++ codes "] (1, 2) * 3")
      E04 (place 1 223)
  pub higher_exit : Refuses
      (codes "def a = exit [Int] (" ++ repeated 98 (codes "(") ++ codes "1" ++ repeated 98 (codes ")")
      ++ codes ", 2) * 3")
      E04 (place 1 223)
  pub higher_value_of_an_exit : Refuses
      (codes "def a = exit [Int] (1, " ++ repeated 98 (codes "(") ++ codes "2" ++ repeated 98 (codes ")")
      ++ codes ") * 3")
      E04 (place 1 223)
  pub higher_printed : Refuses
      (codes "def a = 1.print(" ++ repeated 98 (codes "(") ++ codes "2" ++ repeated 98 (codes ")")
      ++ codes ").read()")
      E04 (place 1 215)
  pub higher_right_operand : Refuses
      (codes "def a = 1 + " ++ repeated 98 (codes "(") ++ codes "2" ++ repeated 98 (codes ")") ++ codes " + 3")
      E04 (place 1 211)
  pub higher_left_operand : Refuses
      (codes "def a = " ++ repeated 98 (codes "(") ++ codes "2" ++ repeated 98 (codes ")") ++ codes " + 3 + 4")
      E04 (place 1 211)
  -- each link is one higher
  pub one_behind : Refuses
      (codes "def a = 1 + " ++ repeated 97 (codes "(") ++ codes "2" ++ repeated 97 (codes ")") ++ codes " + 3")
      E12 (place 1 9)
  pub two_behind : Refuses
      (codes "def a = 1 + " ++ repeated 97 (codes "(") ++ codes "2" ++ repeated 97 (codes ")") ++ codes " + 3 + 4")
      E04 (place 1 213)
  pub two_calls_behind : Refuses
      (codes "def a = 1(" ++ repeated 97 (codes "(") ++ codes "2" ++ repeated 97 (codes ")") ++ codes ")(3)(4)")
      E04 (place 1 210)
  pub higher_content_of_a_box : Refuses
      (codes "def a = box " ++ repeated 98 (codes "(") ++ codes "1" ++ repeated 98 (codes ")") ++ codes " + 2")
      E04 (place 1 211)
  pub higher_opened : Refuses
      (codes "def a = unbox " ++ repeated 98 (codes "(") ++ codes "1" ++ repeated 98 (codes ")") ++ codes " + 2")
      E04 (place 1 213)

-- The leaves of a type are 1 high: a type variable, and the greatest type.
pub record LeafHeights : Type 0 where
  pub type_variable : Accepts
      (codes "def a = fun [X <: Int] => fun (x: " ++ repeated 97 (codes "(") ++ codes "X" ++ repeated 97 (codes ")")
      ++ codes ") => 1")
      (codes "a: [_T0 <: Int] -> (_1: _T0) -> Int" ∷ [])
  pub type_variable_of_one_more : Refuses
      (codes "def a = fun [X <: Int] => fun (x: " ++ repeated 98 (codes "(") ++ codes "X" ++ repeated 98 (codes ")")
      ++ codes ") => 1")
      E04 (place 1 132)
  pub greatest : Accepts
      (codes "def a = fun (x: " ++ repeated 98 (codes "(") ++ codes "Any" ++ repeated 98 (codes ")") ++ codes ") => 1")
      (codes "a: (_0: Any) -> Int" ∷ [])
  pub greatest_of_one_more : Refuses
      (codes "def a = fun (x: " ++ repeated 99 (codes "(") ++ codes "Any" ++ repeated 99 (codes ")") ++ codes ") => 1")
      E04 (place 1 115)
