-- What an action does to each form of shapes, notes and terms, by example; and what opening, closing, renaming, filling, reading and writing do to a variable or an element, by computation.
use Rattle.std.proofs.Common.{refl}
use Rattle.cc_capture.specs.Elements.{element_order, same_element}
use Rattle.cc_capture.specs.Rising.{placed}
use Rattle.cc_capture.specs.Sets.{empty, insert, from_list, flat_image}
use Rattle.cc_worked_texts.specs.ActedForms as example

pub acted_sets : example.ActedSets
unfolding empty insert from_list flat_image placed element_order same_element
acted_sets = record {
  nothing = refl;
  variable = refl;
  index = refl;
  cap = refl;
  hole = refl;
  two = refl;
  with_cap = refl;
  under_two_binders = refl;
}

pub acted_shapes : example.ActedShapes
unfolding empty insert from_list flat_image placed element_order same_element
acted_shapes = record {
  base = refl;
  any = refl;
  variable = refl;
  index = refl;
  function = refl;
  type_function = refl;
  box = refl;
  exit = refl;
  function_in_a_result = refl;
  function_in_a_parameter = refl;
  under_two_binders = refl;
  type = refl;
}

pub acted_notes : example.ActedNotes
unfolding empty insert from_list flat_image placed element_order same_element
acted_notes = record {
  absent = refl;
  written = refl;
  own = refl;
}

pub acted_terms : example.ActedTerms
unfolding empty insert from_list flat_image placed element_order same_element
acted_terms = record {
  variable = refl;
  index = refl;
  literal = refl;
  function = refl;
  type_function = refl;
  box = refl;
  application = refl;
  type_application = refl;
  unboxing = refl;
  unboxing_without_a_set = refl;
  binding = refl;
  primitive = refl;
  choice = refl;
  repetition = refl;
  operation = refl;
  operation_without_an_argument = refl;
  boundary = refl;
  leave = refl;
  function_in_a_function = refl;
  binding_in_a_right_side = refl;
  binding_in_a_branch = refl;
}

pub acted_variables : example.ActedVariables
unfolding empty insert from_list flat_image placed element_order same_element
acted_variables = record {
  put = refl;
  put_for_no_inner_index = refl;
  put_for_no_outer_index = refl;
  put_for_no_position = refl;
  put_shape_at = refl;
  put_shape_for_no_inner_index = refl;
  put_shape_for_no_outer_index = refl;
  put_shape_for_no_position = refl;
  closed = refl;
  closed_at_no_lower_position = refl;
  closed_at_no_higher_position = refl;
  closed_at_no_index = refl;
  renamed = refl;
  renamed_at_no_index = refl;
  shape_for_a_position = refl;
  shape_for_no_index = refl;
  moved = refl;
  moved_cap = refl;
  moved_hole = refl;
  filled = refl;
  filled_variable = refl;
  filled_cap = refl;
}

pub read_variables : example.ReadVariables
unfolding empty insert from_list flat_image placed element_order same_element
read_variables = record {
  newest = refl;
  second = refl;
  oldest = refl;
  none_older = refl;
  inner = refl;
  position = refl;
  written_newest = refl;
  written_oldest = refl;
  written_below_the_root = refl;
  written_behind_the_entries = refl;
  written_index = refl;
}
