-- Where something occurs in a shape, by example: in each part of each form alone, and in none; the kinds of what stands there; and which shapes and types are the same, by computation.
use Rattle.std.proofs.Common.{refl}
use Rattle.cc_capture.specs.Elements.{element_order, same_element}
use Rattle.cc_capture.specs.Rising.{placed}
use Rattle.cc_capture.specs.Sets.{empty, insert, from_list, contains, same_set}
use Rattle.cc_capture.specs.Variables.{same_variable}
use Rattle.cc_worked_texts.specs.OccurringForms as example

pub occurring_parts : example.OccurringParts
unfolding empty insert from_list contains same_set same_variable placed element_order same_element
occurring_parts = record {
  base = refl;
  any = refl;
  variable = refl;
  other_variable = refl;
  index = refl;
  parameter = refl;
  set_of_a_parameter = refl;
  result = refl;
  set_of_a_result = refl;
  no_part_of_a_function = refl;
  bound = refl;
  result_of_a_type_function = refl;
  set_of_that_result = refl;
  no_part_of_a_type_function = refl;
  content = refl;
  set_of_a_content = refl;
  no_part_of_a_box = refl;
  given_by_an_exit = refl;
  no_part_of_an_exit = refl;
  shape_of_a_type = refl;
  set_of_a_type = refl;
  no_part_of_a_type = refl;
}

pub holes : example.Holes
unfolding empty insert from_list contains same_set same_variable placed element_order same_element
holes = record {
  hole = refl;
  cap = refl;
  variable = refl;
  index = refl;
}

pub kinds_of_elements : example.KindsOfElements
unfolding empty insert from_list contains same_set same_variable placed element_order same_element
kinds_of_elements = record {
  term = refl;
  type = refl;
  no_entry = refl;
  passed_term = refl;
  passed_type = refl;
  no_binder = refl;
  cap = refl;
  hole = refl;
}

pub same_variables : example.SameVariables
unfolding empty insert from_list contains same_set same_variable placed element_order same_element
same_variables = record {
  positions = refl;
  other_positions = refl;
  indices = refl;
  other_indices = refl;
  position_and_index = refl;
  index_and_position = refl;
}

pub same_shapes : example.SameShapes
unfolding empty insert from_list contains same_set same_variable placed element_order same_element
same_shapes = record {
  base = refl;
  other_base = refl;
  devices = refl;
  any = refl;
  any_and_base = refl;
  variable = refl;
  other_variable = refl;
  function = refl;
  parameter = refl;
  set_of_a_parameter = refl;
  result = refl;
  set_of_a_result = refl;
  type_function = refl;
  bound = refl;
  result_of_a_type_function = refl;
  set_of_that_result = refl;
  box = refl;
  content = refl;
  set_of_a_content = refl;
  exit = refl;
  other_exit = refl;
  exit_and_box = refl;
  function_and_type_function = refl;
  type = refl;
  shape_of_a_type = refl;
  set_of_a_type = refl;
}
