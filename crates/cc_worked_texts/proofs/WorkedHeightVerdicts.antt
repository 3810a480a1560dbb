-- Texts with trees of height 100, and with one level more.
use Rattle.std.proofs.Common.{refl, codes, [], ◌∷◌, ◌++◌}
use Rattle.cc_base.specs.declared.code.Code.TheVariants.{E04, E12, E14}
use Rattle.cc_worked_texts.specs.TextVerdicts.{place, repeated}
use Rattle.cc_worked_texts.specs.HeightVerdicts as example
use Rattle.cc_worked_texts.proofs.ComputedModules.{text_computing, refused, accepted}

pub parts : example.PartHeights
unfolding text_computing
parts = record {
  right_side_of_a_val = refused 9 (codes "def a = val x = " ++ repeated 98 (codes "(") ++ codes "1" ++ repeated 98 (codes ")") ++ codes "; x") E12 (place 1 9) refl;
  right_side_of_a_val_of_one_more = refused 9 (codes "def a = val x = " ++ repeated 99 (codes "(") ++ codes "1" ++ repeated 99 (codes ")") ++ codes "; x") E04 (place 1 115) refl;
  body_of_a_val = refused 9 (codes "def a = val x = 1; " ++ repeated 98 (codes "(") ++ codes "x" ++ repeated 98 (codes ")")) E12 (place 1 9) refl;
  body_of_a_val_of_one_more = refused 9 (codes "def a = val x = 1; " ++ repeated 99 (codes "(") ++ codes "x" ++ repeated 99 (codes ")")) E04 (place 1 118) refl;
  type_of_a_val = refused 9 (codes "def a = val x: " ++ repeated 98 (codes "(") ++ codes "Int" ++ repeated 98 (codes ")") ++ codes " = 1; x") E12 (place 1 9) refl;
  type_of_a_val_of_one_more = refused 9 (codes "def a = val x: " ++ repeated 99 (codes "(") ++ codes "Int" ++ repeated 99 (codes ")") ++ codes " = 1; x") E04 (place 1 114) refl;
  type_of_a_parameter = accepted 9 (codes "def a = fun (x: " ++ repeated 98 (codes "(") ++ codes "Int" ++ repeated 98 (codes ")") ++ codes ") => 1") (codes "a: (_0: Int) -> Int" ∷ []) refl;
  type_of_a_parameter_of_one_more = refused 9 (codes "def a = fun (x: " ++ repeated 99 (codes "(") ++ codes "Int" ++ repeated 99 (codes ")") ++ codes ") => 1") E04 (place 1 115) refl;
  body_of_a_function = accepted 9 (codes "def a = fun (x: Int) => " ++ repeated 98 (codes "(") ++ codes "1" ++ repeated 98 (codes ")")) (codes "a: (_0: Int) -> Int" ∷ []) refl;
  body_of_a_function_of_one_more = refused 9 (codes "def a = fun (x: Int) => " ++ repeated 99 (codes "(") ++ codes "1" ++ repeated 99 (codes ")")) E04 (place 1 123) refl;
  bound = accepted 9 (codes "def a = fun [X <: " ++ repeated 98 (codes "(") ++ codes "Int" ++ repeated 98 (codes ")") ++ codes "] => 1") (codes "a: [_T0 <: Int] -> Int" ∷ []) refl;
  bound_of_one_more = refused 9 (codes "def a = fun [X <: " ++ repeated 99 (codes "(") ++ codes "Int" ++ repeated 99 (codes ")") ++ codes "] => 1") E04 (place 1 117) refl;
  body_of_a_type_function = accepted 9 (codes "def a = fun [X <: Int] => " ++ repeated 98 (codes "(") ++ codes "1" ++ repeated 98 (codes ")")) (codes "a: [_T0 <: Int] -> Int" ∷ []) refl;
  body_of_a_type_function_of_one_more = refused 9 (codes "def a = fun [X <: Int] => " ++ repeated 99 (codes "(") ++ codes "1" ++ repeated 99 (codes ")")) E04 (place 1 125) refl;
  condition = refused 9 (codes "def a = if [Int] " ++ repeated 98 (codes "(") ++ codes "true" ++ repeated 98 (codes ")") ++ codes " then 1 else 2") E12 (place 1 9) refl;
  condition_of_one_more = refused 9 (codes "def a = if [Int] " ++ repeated 99 (codes "(") ++ codes "true" ++ repeated 99 (codes ")") ++ codes " then 1 else 2") E04 (place 1 116) refl;
  first_branch = refused 9 (codes "def a = if [Int] true then " ++ repeated 98 (codes "(") ++ codes "1" ++ repeated 98 (codes ")") ++ codes " else 2") E12 (place 1 9) refl;
  first_branch_of_one_more = refused 9 (codes "def a = if [Int] true then " ++ repeated 99 (codes "(") ++ codes "1" ++ repeated 99 (codes ")") ++ codes " else 2") E04 (place 1 126) refl;
  second_branch = refused 9 (codes "def a = if [Int] true then 1 else " ++ repeated 98 (codes "(") ++ codes "2" ++ repeated 98 (codes ")")) E12 (place 1 9) refl;
  second_branch_of_one_more = refused 9 (codes "def a = if [Int] true then 1 else " ++ repeated 99 (codes "(") ++ codes "2" ++ repeated 99 (codes ")")) E04 (place 1 133) refl;
  shape_of_a_boundary = refused 9 (codes "def a = boundary [" ++ repeated 98 (codes "(") ++ codes "Int" ++ repeated 98 (codes ")") ++ codes "] z => 1") E12 (place 1 9) refl;
  shape_of_a_boundary_of_one_more = refused 9 (codes "def a = boundary [" ++ repeated 99 (codes "(") ++ codes "Int" ++ repeated 99 (codes ")") ++ codes "] z => 1") E04 (place 1 117) refl;
  body_of_a_boundary = refused 9 (codes "def a = boundary [Int] z => " ++ repeated 98 (codes "(") ++ codes "1" ++ repeated 98 (codes ")")) E12 (place 1 9) refl;
  body_of_a_boundary_of_one_more = refused 9 (codes "def a = boundary [Int] z => " ++ repeated 99 (codes "(") ++ codes "1" ++ repeated 99 (codes ")")) E04 (place 1 127) refl;
  content_of_a_box = refused 9 (codes "def a = box " ++ repeated 98 (codes "(") ++ codes "1" ++ repeated 98 (codes ")")) E12 (place 1 9) refl;
  content_of_a_box_of_one_more = refused 9 (codes "def a = box " ++ repeated 99 (codes "(") ++ codes "1" ++ repeated 99 (codes ")")) E04 (place 1 111) refl;
  opened = refused 9 (codes "def a = unbox " ++ repeated 98 (codes "(") ++ codes "1" ++ repeated 98 (codes ")")) E12 (place 1 9) refl;
  opened_of_one_more = refused 9 (codes "def a = unbox " ++ repeated 99 (codes "(") ++ codes "1" ++ repeated 99 (codes ")")) E04 (place 1 113) refl;
  opened_with_a_set = refused 9 (codes "def a = unbox {out} " ++ repeated 98 (codes "(") ++ codes "1" ++ repeated 98 (codes ")")) E12 (place 1 9) refl;
  opened_with_a_set_of_one_more = refused 9 (codes "def a = unbox {out} " ++ repeated 99 (codes "(") ++ codes "1" ++ repeated 99 (codes ")")) E04 (place 1 119) refl;
  function = refused 9 (codes "def a = " ++ repeated 98 (codes "(") ++ codes "1" ++ repeated 98 (codes ")") ++ codes "(2)") E12 (place 1 9) refl;
  function_of_one_more = refused 9 (codes "def a = " ++ repeated 99 (codes "(") ++ codes "1" ++ repeated 99 (codes ")") ++ codes "(2)") E04 (place 1 208) refl;
  argument = refused 9 (codes "def a = out(" ++ repeated 98 (codes "(") ++ codes "1" ++ repeated 98 (codes ")") ++ codes ")") E12 (place 1 9) refl;
  argument_of_one_more = refused 9 (codes "def a = out(" ++ repeated 99 (codes "(") ++ codes "1" ++ repeated 99 (codes ")") ++ codes ")") E04 (place 1 111) refl;
  type_function = refused 9 (codes "def a = " ++ repeated 98 (codes "(") ++ codes "1" ++ repeated 98 (codes ")") ++ codes "[Int]") E12 (place 1 9) refl;
  type_function_of_one_more = refused 9 (codes "def a = " ++ repeated 99 (codes "(") ++ codes "1" ++ repeated 99 (codes ")") ++ codes "[Int]") E04 (place 1 208) refl;
  receiver = refused 9 (codes "def a = " ++ repeated 98 (codes "(") ++ codes "out" ++ repeated 98 (codes ")") ++ codes ".print(1)") E12 (place 1 9) refl;
  receiver_of_one_more = refused 9 (codes "def a = " ++ repeated 99 (codes "(") ++ codes "out" ++ repeated 99 (codes ")") ++ codes ".print(1)") E04 (place 1 210) refl;
  printed = refused 9 (codes "def a = out.print(" ++ repeated 98 (codes "(") ++ codes "1" ++ repeated 98 (codes ")") ++ codes ")") E12 (place 1 9) refl;
  printed_of_one_more = refused 9 (codes "def a = out.print(" ++ repeated 99 (codes "(") ++ codes "1" ++ repeated 99 (codes ")") ++ codes ")") E04 (place 1 117) refl;
  ticked = refused 9 (codes "def a = " ++ repeated 98 (codes "(") ++ codes "hits" ++ repeated 98 (codes ")") ++ codes ".tick()") E12 (place 1 9) refl;
  ticked_of_one_more = refused 9 (codes "def a = " ++ repeated 99 (codes "(") ++ codes "hits" ++ repeated 99 (codes ")") ++ codes ".tick()") E04 (place 1 211) refl;
  left_side = refused 9 (codes "def a = " ++ repeated 98 (codes "(") ++ codes "1" ++ repeated 98 (codes ")") ++ codes " + 2") E12 (place 1 9) refl;
  left_side_of_one_more = refused 9 (codes "def a = " ++ repeated 99 (codes "(") ++ codes "1" ++ repeated 99 (codes ")") ++ codes " + 2") E04 (place 1 209) refl;
  right_side = refused 9 (codes "def a = 1 + " ++ repeated 98 (codes "(") ++ codes "2" ++ repeated 98 (codes ")")) E12 (place 1 9) refl;
  right_side_of_one_more = refused 9 (codes "def a = 1 + " ++ repeated 99 (codes "(") ++ codes "2" ++ repeated 99 (codes ")")) E04 (place 1 111) refl;
  left_of_less = refused 9 (codes "def a = " ++ repeated 98 (codes "(") ++ codes "1" ++ repeated 98 (codes ")") ++ codes " < 2") E12 (place 1 9) refl;
  left_of_less_of_one_more = refused 9 (codes "def a = " ++ repeated 99 (codes "(") ++ codes "1" ++ repeated 99 (codes ")") ++ codes " < 2") E04 (place 1 209) refl;
  right_of_times = refused 9 (codes "def a = 1 * " ++ repeated 98 (codes "(") ++ codes "2" ++ repeated 98 (codes ")")) E12 (place 1 9) refl;
  right_of_times_of_one_more = refused 9 (codes "def a = 1 * " ++ repeated 99 (codes "(") ++ codes "2" ++ repeated 99 (codes ")")) E04 (place 1 111) refl;
  type_of_an_exit = refused 9 (codes "def a = exit [" ++ repeated 98 (codes "(") ++ codes "Int" ++ repeated 98 (codes ")") ++ codes "] (1, 2)") E12 (place 1 9) refl;
  type_of_an_exit_of_one_more = refused 9 (codes "def a = exit [" ++ repeated 99 (codes "(") ++ codes "Int" ++ repeated 99 (codes ")") ++ codes "] (1, 2)") E04 (place 1 113) refl;
  exit = refused 9 (codes "def a = exit [Int] (" ++ repeated 98 (codes "(") ++ codes "1" ++ repeated 98 (codes ")") ++ codes ", 2)") E12 (place 1 9) refl;
  exit_of_one_more = refused 9 (codes "def a = exit [Int] (" ++ repeated 99 (codes "(") ++ codes "1" ++ repeated 99 (codes ")") ++ codes ", 2)") E04 (place 1 119) refl;
  value_of_an_exit = refused 9 (codes "def a = exit [Int] (1, " ++ repeated 98 (codes "(") ++ codes "2" ++ repeated 98 (codes ")") ++ codes ")") E12 (place 1 9) refl;
  value_of_an_exit_of_one_more = refused 9 (codes "def a = exit [Int] (1, " ++ repeated 99 (codes "(") ++ codes "2" ++ repeated 99 (codes ")") ++ codes ")") E04 (place 1 122) refl;
  count = refused 9 (codes "def a = repeat(" ++ repeated 98 (codes "(") ++ codes "1" ++ repeated 98 (codes ")") ++ codes ", 2)") E12 (place 1 9) refl;
  count_of_one_more = refused 9 (codes "def a = repeat(" ++ repeated 99 (codes "(") ++ codes "1" ++ repeated 99 (codes ")") ++ codes ", 2)") E04 (place 1 114) refl;
  repeated_function = refused 9 (codes "def a = repeat(1, " ++ repeated 98 (codes "(") ++ codes "2" ++ repeated 98 (codes ")") ++ codes ")") E12 (place 1 9) refl;
  repeated_function_of_one_more = refused 9 (codes "def a = repeat(1, " ++ repeated 99 (codes "(") ++ codes "2" ++ repeated 99 (codes ")") ++ codes ")") E04 (place 1 117) refl;
}

pub nested : example.NestedHeights
unfolding text_computing
nested = record {
  shape_of_an_exit = refused 9 (codes "def a: Exit[" ++ repeated 98 (codes "(") ++ codes "Int" ++ repeated 98 (codes ")") ++ codes "] = 1") E14 (place 1 216) refl;
  shape_of_an_exit_of_one_more = refused 9 (codes "def a: Exit[" ++ repeated 99 (codes "(") ++ codes "Int" ++ repeated 99 (codes ")") ++ codes "] = 1") E04 (place 1 111) refl;
  content_of_a_box = refused 9 (codes "def a: Box[" ++ repeated 98 (codes "(") ++ codes "Int" ++ repeated 98 (codes ")") ++ codes "] = 1") E14 (place 1 215) refl;
  content_of_a_box_of_one_more = refused 9 (codes "def a: Box[" ++ repeated 99 (codes "(") ++ codes "Int" ++ repeated 99 (codes ")") ++ codes "] = 1") E04 (place 1 110) refl;
  parameter = refused 9 (codes "def a: (x: " ++ repeated 98 (codes "(") ++ codes "Int" ++ repeated 98 (codes ")") ++ codes ") -> Int = 1") E14 (place 1 222) refl;
  parameter_of_one_more = refused 9 (codes "def a: (x: " ++ repeated 99 (codes "(") ++ codes "Int" ++ repeated 99 (codes ")") ++ codes ") -> Int = 1") E04 (place 1 110) refl;
  result = refused 9 (codes "def a: (x: Int) -> " ++ repeated 98 (codes "(") ++ codes "Int" ++ repeated 98 (codes ")") ++ codes " = 1") E14 (place 1 222) refl;
  result_of_one_more = refused 9 (codes "def a: (x: Int) -> " ++ repeated 99 (codes "(") ++ codes "Int" ++ repeated 99 (codes ")") ++ codes " = 1") E04 (place 1 118) refl;
  bound_of_a_type = refused 9 (codes "def a: [X <: " ++ repeated 98 (codes "(") ++ codes "Int" ++ repeated 98 (codes ")") ++ codes "] -> Int = 1") E14 (place 1 224) refl;
  bound_of_a_type_of_one_more = refused 9 (codes "def a: [X <: " ++ repeated 99 (codes "(") ++ codes "Int" ++ repeated 99 (codes ")") ++ codes "] -> Int = 1") E04 (place 1 112) refl;
  result_of_a_type_function = refused 9 (codes "def a: [X <: Int] -> " ++ repeated 98 (codes "(") ++ codes "Int" ++ repeated 98 (codes ")") ++ codes " = 1") E14 (place 1 224) refl;
  result_of_a_type_function_of_one_more = refused 9 (codes "def a: [X <: Int] -> " ++ repeated 99 (codes "(") ++ codes "Int" ++ repeated 99 (codes ")") ++ codes " = 1") E04 (place 1 120) refl;
  type_of_a_recursive_definition = refused 9 (codes "def rec a: " ++ repeated 99 (codes "(") ++ codes "Int" ++ repeated 99 (codes ")") ++ codes " = 1") E12 (place 1 216) refl;
  type_of_a_recursive_definition_of_one_more = refused 9 (codes "def rec a: " ++ repeated 100 (codes "(") ++ codes "Int" ++ repeated 100 (codes ")") ++ codes " = 1") E04 (place 1 111) refl;
  set_behind_a_shape = refused 9 (codes "def a: Box[" ++ repeated 98 (codes "(") ++ codes "Int" ++ repeated 98 (codes ")") ++ codes "^{out}] = 1") E14 (place 1 221) refl;
  set_behind_a_shape_of_one_more = refused 9 (codes "def a: Box[" ++ repeated 99 (codes "(") ++ codes "Int" ++ repeated 99 (codes ")") ++ codes "^{out}] = 1") E04 (place 1 110) refl;
  calls = refused 9 (codes "def a = 1" ++ repeated 99 (codes "(2)")) E12 (place 1 9) refl;
  calls_of_one_more = refused 9 (codes "def a = 1" ++ repeated 100 (codes "(2)")) E04 (place 1 307) refl;
  type_calls = refused 9 (codes "def a = 1" ++ repeated 99 (codes "[Int]")) E12 (place 1 9) refl;
  type_calls_of_one_more = refused 9 (codes "def a = 1" ++ repeated 100 (codes "[Int]")) E04 (place 1 505) refl;
  reads = refused 9 (codes "def a = 1" ++ repeated 99 (codes ".read()")) E12 (place 1 9) refl;
  reads_of_one_more = refused 9 (codes "def a = 1" ++ repeated 100 (codes ".read()")) E04 (place 1 703) refl;
  products = refused 9 (codes "def a = 1" ++ repeated 99 (codes " * 1")) E12 (place 1 9) refl;
  products_of_one_more = refused 9 (codes "def a = 1" ++ repeated 100 (codes " * 1")) E04 (place 1 407) refl;
  differences_in_parentheses = refused 9 (codes "def a = (1" ++ repeated 98 (codes " - 1") ++ codes ")") E12 (place 1 9) refl;
  differences_in_parentheses_of_one_more = refused 9 (codes "def a = (1" ++ repeated 99 (codes " - 1") ++ codes ")") E04 (place 1 404) refl;
  type_and_expression = accepted 9 (codes "def a: " ++ repeated 99 (codes "(") ++ codes "Int" ++ repeated 99 (codes ")") ++ codes " = " ++ repeated 99 (codes "(") ++ codes "1" ++ repeated 99 (codes ")")) (codes "a: Int" ∷ []) refl;
  two_definitions = accepted 9 (codes "def a: " ++ repeated 99 (codes "(") ++ codes "Int" ++ repeated 99 (codes ")") ++ codes " = 1 def b: " ++ repeated 99 (codes "(") ++ codes "Int" ++ repeated 99 (codes ")") ++ codes " = 1") (codes "a: Int" ∷ codes "b: Int" ∷ []) refl;
}

pub linked : example.LinkedHeights
unfolding text_computing
linked = record {
  written_type = refused 9 (codes "def a = (val x: " ++ repeated 96 (codes "(") ++ codes "Int" ++ repeated 96 (codes ")") ++ codes " = 1; x) + 1") E12 (place 1 9) refl;
  higher_written_type = refused 9 (codes "def a = (val x: " ++ repeated 97 (codes "(") ++ codes "Int" ++ repeated 97 (codes ")") ++ codes " = 1; x) + 1") E04 (place 1 223) refl;
  set_of_a_written_type = refused 9 (codes "def a = (val x: " ++ repeated 96 (codes "(") ++ codes "Int" ++ repeated 96 (codes ")") ++ codes "^{out, hits} = 1; x) + 1") E12 (place 1 9) refl;
  higher_right_side = refused 9 (codes "def a = (val x = " ++ repeated 97 (codes "(") ++ codes "1" ++ repeated 97 (codes ")") ++ codes "; x) + 1") E04 (place 1 218) refl;
  higher_body = refused 9 (codes "def a = (val x = 1; " ++ repeated 97 (codes "(") ++ codes "x" ++ repeated 97 (codes ")") ++ codes ") + 1") E04 (place 1 218) refl;
  higher_parameter = refused 9 (codes "def a = (fun (x: " ++ repeated 97 (codes "(") ++ codes "Int" ++ repeated 97 (codes ")") ++ codes ") => 1)(2)") E04 (place 1 222) refl;
  higher_bound = refused 9 (codes "def a = (fun [X <: " ++ repeated 97 (codes "(") ++ codes "Int" ++ repeated 97 (codes ")") ++ codes "] => 1)[Int]") E04 (place 1 224) refl;
  higher_condition = refused 9 (codes "def a = (if [Int] " ++ repeated 97 (codes "(") ++ codes "true" ++ repeated 97 (codes ")") ++ codes " then 1 else 2) * 3") E04 (place 1 233) refl;
  higher_first_branch = refused 9 (codes "def a = (if [Int] true then " ++ repeated 97 (codes "(") ++ codes "1" ++ repeated 97 (codes ")") ++ codes " else 2) * 3") E04 (place 1 233) refl;
  higher_second_branch = refused 9 (codes "def a = (if [Int] true then 1 else " ++ repeated 97 (codes "(") ++ codes "2" ++ repeated 97 (codes ")") ++ codes ") * 3") E04 (place 1 233) refl;
  higher_type_of_a_choice = refused 9 (codes "def a = (if [" ++ repeated 97 (codes "(") ++ codes "Int" ++ repeated 97 (codes ")") ++ codes "] true then 1 else 2) * 3") E04 (place 1 233) refl;
  higher_shape_of_a_boundary = refused 9 (codes "def a = (boundary [" ++ repeated 97 (codes "(") ++ codes "Int" ++ repeated 97 (codes ")") ++ codes "] z => 1)[Int]") E04 (place 1 226) refl;
  higher_body_of_a_boundary = refused 9 (codes "def a = (boundary [Int] z => " ++ repeated 97 (codes "(") ++ codes "1" ++ repeated 97 (codes ")") ++ codes ")[Int]") E04 (place 1 226) refl;
  count = refused 9 (codes "def a = repeat(" ++ repeated 97 (codes "(") ++ codes "1" ++ repeated 97 (codes ")") ++ codes ", 2) + 1") E12 (place 1 9) refl;
  higher_count = refused 9 (codes "def a = repeat(" ++ repeated 98 (codes "(") ++ codes "1" ++ repeated 98 (codes ")") ++ codes ", 2) + 1") E04 (place 1 218) refl;
  higher_function = refused 9 (codes "def a = repeat(1, " ++ repeated 98 (codes "(") ++ codes "2" ++ repeated 98 (codes ")") ++ codes ") + 1") E04 (place 1 218) refl;
  higher_argument = refused 9 (codes "def a = 1(" ++ repeated 98 (codes "(") ++ codes "2" ++ repeated 98 (codes ")") ++ codes ")(3)") E04 (place 1 209) refl;
  higher_shape = refused 9 (codes "def a = 1[" ++ repeated 98 (codes "(") ++ codes "Int" ++ repeated 98 (codes ")") ++ codes "](3)") E04 (place 1 211) refl;
  higher_type_of_an_exit = refused 9 (codes "def a = exit [" ++ repeated 98 (codes "(") ++ codes "Int" ++ repeated 98 (codes ")") ++ codes "] (1, 2) * 3") E04 (place 1 223) refl;
  higher_exit = refused 9 (codes "def a = exit [Int] (" ++ repeated 98 (codes "(") ++ codes "1" ++ repeated 98 (codes ")") ++ codes ", 2) * 3") E04 (place 1 223) refl;
  higher_value_of_an_exit = refused 9 (codes "def a = exit [Int] (1, " ++ repeated 98 (codes "(") ++ codes "2" ++ repeated 98 (codes ")") ++ codes ") * 3") E04 (place 1 223) refl;
  higher_printed = refused 9 (codes "def a = 1.print(" ++ repeated 98 (codes "(") ++ codes "2" ++ repeated 98 (codes ")") ++ codes ").read()") E04 (place 1 215) refl;
  higher_right_operand = refused 9 (codes "def a = 1 + " ++ repeated 98 (codes "(") ++ codes "2" ++ repeated 98 (codes ")") ++ codes " + 3") E04 (place 1 211) refl;
  higher_left_operand = refused 9 (codes "def a = " ++ repeated 98 (codes "(") ++ codes "2" ++ repeated 98 (codes ")") ++ codes " + 3 + 4") E04 (place 1 211) refl;
  one_behind = refused 9 (codes "def a = 1 + " ++ repeated 97 (codes "(") ++ codes "2" ++ repeated 97 (codes ")") ++ codes " + 3") E12 (place 1 9) refl;
  two_behind = refused 9 (codes "def a = 1 + " ++ repeated 97 (codes "(") ++ codes "2" ++ repeated 97 (codes ")") ++ codes " + 3 + 4") E04 (place 1 213) refl;
  two_calls_behind = refused 9 (codes "def a = 1(" ++ repeated 97 (codes "(") ++ codes "2" ++ repeated 97 (codes ")") ++ codes ")(3)(4)") E04 (place 1 210) refl;
  higher_content_of_a_box = refused 9 (codes "def a = box " ++ repeated 98 (codes "(") ++ codes "1" ++ repeated 98 (codes ")") ++ codes " + 2") E04 (place 1 211) refl;
  higher_opened = refused 9 (codes "def a = unbox " ++ repeated 98 (codes "(") ++ codes "1" ++ repeated 98 (codes ")") ++ codes " + 2") E04 (place 1 213) refl;
}

pub leaves : example.LeafHeights
unfolding text_computing
leaves = record {
  type_variable = accepted 9 (codes "def a = fun [X <: Int] => fun (x: " ++ repeated 97 (codes "(") ++ codes "X" ++ repeated 97 (codes ")") ++ codes ") => 1") (codes "a: [_T0 <: Int] -> (_1: _T0) -> Int" ∷ []) refl;
  type_variable_of_one_more = refused 9 (codes "def a = fun [X <: Int] => fun (x: " ++ repeated 98 (codes "(") ++ codes "X" ++ repeated 98 (codes ")") ++ codes ") => 1") E04 (place 1 132) refl;
  greatest = accepted 9 (codes "def a = fun (x: " ++ repeated 98 (codes "(") ++ codes "Any" ++ repeated 98 (codes ")") ++ codes ") => 1") (codes "a: (_0: Any) -> Int" ∷ []) refl;
  greatest_of_one_more = refused 9 (codes "def a = fun (x: " ++ repeated 99 (codes "(") ++ codes "Any" ++ repeated 99 (codes ")") ++ codes ") => 1") E04 (place 1 115) refl;
}
