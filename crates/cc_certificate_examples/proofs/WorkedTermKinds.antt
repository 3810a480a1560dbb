-- The kinds of variables in terms and shapes, by computation.
use Rattle.std.proofs.Common.{refl}
use Rattle.cc_capture.specs.Elements.{element_order, same_element}
use Rattle.cc_capture.specs.Rising.{placed}
use Rattle.cc_capture.specs.Variables.{same_variable}
use Rattle.cc_capture.specs.Sets.{contains, same_set, image, flat_image, from_list, union, retain, remove, insert, empty}
use Rattle.cc_certificate_examples.specs.TermKinds as example

pub parts_have_kinds : example.PartsHaveKinds
unfolding same_set contains image flat_image from_list union retain remove insert placed element_order same_element same_variable empty
parts_have_kinds = record {
  variable = refl;
  type_for_a_variable = refl;
  parameter = refl;
  type_of_a_parameter = refl;
  set_of_a_parameter = refl;
  body_of_a_function = refl;
  bound = refl;
  bound_of_a_type_function = refl;
  body_of_a_type_function = refl;
  box = refl;
  content_of_a_box = refl;
  application = refl;
  called = refl;
  argument = refl;
  type_application = refl;
  applied_to_a_type = refl;
  type_argument = refl;
  unboxing = refl;
  unboxing_without_a_set = refl;
  set_of_an_unboxing = refl;
  opened = refl;
  opened_without_a_set = refl;
  bound_by_a_let = refl;
  type_of_a_let = refl;
  set_of_a_let = refl;
  shape_of_a_let = refl;
  right_side_of_a_let = refl;
  body_of_a_let = refl;
  operator = refl;
  left_operand = refl;
  right_operand = refl;
  choice = refl;
  type_of_a_choice = refl;
  condition = refl;
  first_branch = refl;
  second_branch = refl;
  repetition = refl;
  count = refl;
  repeated = refl;
  operation = refl;
  operation_without_an_argument = refl;
  receiver = refl;
  operand = refl;
  boundary = refl;
  shape_of_a_boundary = refl;
  body_of_a_boundary = refl;
  exit = refl;
  type_of_an_exit = refl;
  set_of_an_exit = refl;
  left = refl;
  left_with = refl;
}

pub parts_of_shapes_have_kinds : example.PartsOfShapesHaveKinds
unfolding same_set contains image flat_image from_list union retain remove insert placed element_order same_element same_variable empty
parts_of_shapes_have_kinds = record {
  base = refl;
  any = refl;
  variable = refl;
  term_for_a_variable = refl;
  variable_of_no_entry = refl;
  index_of_no_binder = refl;
  function = refl;
  parameter = refl;
  set_of_a_parameter = refl;
  result = refl;
  set_of_a_result = refl;
  parameter_in_a_set = refl;
  parameter_as_a_shape = refl;
  parameter_in_its_own_set = refl;
  type_function = refl;
  bound = refl;
  result_of_a_type_function = refl;
  set_of_that_result = refl;
  type_parameter_as_a_shape = refl;
  type_parameter_in_a_set = refl;
  type_parameter_in_its_own_bound = refl;
  box = refl;
  content = refl;
  set_of_a_content = refl;
  exit = refl;
  given_by_an_exit = refl;
  type = refl;
  shape_of_a_type = refl;
  set_of_a_type = refl;
}

pub indices_have_binders : example.IndicesHaveBinders
unfolding same_set contains image flat_image from_list union retain remove insert placed element_order same_element same_variable empty
indices_have_binders = record {
  variable = refl;
  parameter = refl;
  set_of_a_parameter = refl;
  bound = refl;
  box = refl;
  called = refl;
  argument = refl;
  applied_to_a_type = refl;
  type_argument = refl;
  set_of_an_unboxing = refl;
  opened = refl;
  type_of_a_let = refl;
  set_of_a_let = refl;
  shape_of_a_let = refl;
  left_operand = refl;
  right_operand = refl;
  type_of_a_choice = refl;
  condition = refl;
  count = refl;
  repeated = refl;
  receiver = refl;
  operand = refl;
  shape_of_a_boundary = refl;
  type_of_an_exit = refl;
  set_of_an_exit = refl;
  left = refl;
  left_with = refl;
}
