-- The canonical derivation in each case of its choices, by computation.
use Rattle.std.proofs.Common.{refl}
use Rattle.std.specs.Fmt.{digits}
use Rattle.cc_capture.specs.Elements.{element_order, same_element}
use Rattle.cc_capture.specs.Rising.{placed}
use Rattle.cc_capture.specs.Variables.{same_variable}
use Rattle.cc_capture.specs.Sets.{contains, same_set, image, flat_image, from_list, union, retain, remove, insert, empty}
use Rattle.cc_checking.specs.CanonicalDerivations.{shape_derived, form_derived}
use Rattle.cc_certificate_examples.specs.CanonicalExamples as example
use Rattle.cc_certificate_examples.specs.WidenedPremises as widened
use lib.Utf8.{encode}

-- `unfolding nodes_computing` lets `refl` compute nodes with their texts
unfoldable nodes_computing : Unit {0}
unfolding shape_derived form_derived same_set contains image flat_image from_list union retain remove insert placed
    element_order same_element same_variable empty digits encode
nodes_computing = tt

pub canonical_sets : example.CanonicalSets
unfolding nodes_computing
canonical_sets = record {
  two_elements = refl;
  two_elements_below_the_universal_capability = refl;
  variable_of_two = refl;
  variable_that_is_a_member = refl;
  three_elements = refl;
  variable_of_nothing = refl;
  universal_capability = refl;
  element_and_universal_capability = refl;
  in_two_steps = refl;
  one_that_is_not_below = refl;
  no_element = refl;
}

pub canonical_shapes_by_form : example.CanonicalShapes
unfolding nodes_computing
canonical_shapes_by_form = record {
  one_shape = refl;
  greatest = refl;
  below_the_greatest = refl;
  function_below_the_greatest = refl;
  functions_that_are_one = refl;
  type_variable = refl;
  type_variable_below_the_greatest = refl;
  type_variable_below_its_bound = refl;
  type_variable_below_another = refl;
  type_variable_in_three_steps = refl;
  functions = refl;
  functions_in_a_function = refl;
  functions_that_take_functions = refl;
  type_functions_with_bounds_of_functions = refl;
  type_functions_that_give_functions = refl;
  type_functions = refl;
  type_functions_of_two_bounds = refl;
  boxes = refl;
  boxes_that_are_one = refl;
  exits = refl;
  of_two_forms = refl;
  function_and_number = refl;
  box_and_number = refl;
  type_function_and_number = refl;
}

pub canonical_types : example.CanonicalTypes
unfolding nodes_computing
canonical_types = record {
  sets_and_shapes = refl;
}

pub canonical_definitions : example.CanonicalDefinitions
unfolding nodes_computing
canonical_definitions = record {
  with_nothing_written = refl;
  with_its_own_type_written = refl;
  with_a_greater_type_written = refl;
  with_another_signature = refl;
  with_a_type_written_and_another_signature = refl;
  function_of_two_devices = refl;
}

pub canonical_lets : example.CanonicalLets
unfolding nodes_computing
canonical_lets = record {
  that_keeps_its_type = refl;
  of_a_function = refl;
  in_which_a_function_stands = refl;
  that_avoids_its_variable = refl;
  of_its_own_type = refl;
  of_a_greater_type = refl;
}

pub canonical_operands : widened.CanonicalOperands
unfolding nodes_computing
canonical_operands = record {
  application = refl;
  application_of_a_type_variable = refl;
  argument_of_the_greatest_shape = refl;
  type_application = refl;
  type_application_of_a_type_variable = refl;
  operator = refl;
  operator_on_a_type_variable = refl;
  choice = refl;
  choice_of_a_greater_type = refl;
  repetition = refl;
  operation = refl;
  printing_on_a_type_variable = refl;
  operation_alone = refl;
  operation_of_a_type_variable = refl;
}

pub canonical_boxes_and_boundaries : widened.CanonicalBoxesAndBoundaries
unfolding nodes_computing
canonical_boxes_and_boundaries = record {
  box = refl;
  unboxing = refl;
  unboxing_under_a_greater_set = refl;
  unboxing_of_a_type_variable = refl;
  boundary = refl;
  boundary_of_a_function = refl;
  exit = refl;
  exit_of_a_type_variable = refl;
}

pub terms_without_a_derivation : widened.TermsWithoutADerivation
unfolding nodes_computing
terms_without_a_derivation = record {
  application_of_a_number = refl;
  type_application_of_a_number = refl;
  unboxing_of_a_number = refl;
  exit_by_a_number = refl;
  printing_nothing = refl;
  ticking_something = refl;
  choice_of_no_type = refl;
  choice_of_an_omitted_set = refl;
  variable_that_is_a_type = refl;
  of_a_type_without_its_set = refl;
}
