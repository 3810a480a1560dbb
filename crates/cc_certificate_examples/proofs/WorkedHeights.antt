-- Worked heights, by computation.
use Rattle.std.proofs.Common.{refl}
use Rattle.cc_certificate_examples.specs.HeightExamples as example

pub heights_of_shapes : example.HeightsOfShapes
heights_of_shapes = record {
  base = refl;
  greatest = refl;
  variable = refl;
  variable_of_the_context = refl;
  function = refl;
  parameter_of_a_function = refl;
  result_of_a_function = refl;
  both_parts_of_a_function = refl;
  type_function = refl;
  bound_of_a_type_function = refl;
  result_of_a_type_function = refl;
  both_parts_of_a_type_function = refl;
  box = refl;
  box_of_boxes = refl;
  exit = refl;
  exit_of_boxes = refl;
}

pub heights_of_notes : example.HeightsOfNotes
heights_of_notes = record {
  nothing = refl;
  shape = refl;
  boxes = refl;
  omitted_set = refl;
}

pub heights_of_terms : example.HeightsOfTerms
heights_of_terms = record {
  bound_variable = refl;
  free_variable = refl;
  unit_value = refl;
  truth = refl;
  literal_number = refl;
  text = refl;
  function = refl;
  parameter = refl;
  body_of_a_function = refl;
  both_parts_of_a_function = refl;
  type_function = refl;
  bound = refl;
  body_of_a_type_function = refl;
  box = refl;
  application = refl;
  type_application = refl;
  argument_of_boxes = refl;
  unboxing = refl;
  unboxing_of_an_omitted_set = refl;
  let_of_variables = refl;
  let_of_a_type = refl;
  note_of_a_let = refl;
  right_side_of_a_let = refl;
  body_of_a_let = refl;
  all_parts_of_a_let = refl;
  operator = refl;
  choice = refl;
  choice_of_no_type = refl;
  type_of_a_choice = refl;
  first_branch = refl;
  second_branch = refl;
  repetition = refl;
  operation = refl;
  operation_alone = refl;
  boundary = refl;
  shape_of_a_boundary = refl;
  body_of_a_boundary = refl;
  exit = refl;
  type_of_an_exit = refl;
}

pub heights_of_claims : example.HeightsOfClaims
heights_of_claims = record {
  sets = refl;
  left_shape = refl;
  right_shape = refl;
  left_type = refl;
  right_type = refl;
  type_of_a_term = refl;
}
