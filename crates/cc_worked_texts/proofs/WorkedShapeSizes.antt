-- The sizes of shapes and types, by computation.
use Rattle.std.proofs.Common.{refl}
use Rattle.cc_capture.specs.Elements.{element_order, same_element}
use Rattle.cc_capture.specs.Rising.{placed}
use Rattle.cc_capture.specs.Sets.{empty, insert, from_list}
use Rattle.cc_worked_texts.specs.ShapeSizes as example

pub shapes : example.ShapeSizes
unfolding empty insert from_list placed element_order same_element
shapes = record {
  base = refl;
  unit = refl;
  device = refl;
  any = refl;
  free_variable = refl;
  bound_variable = refl;
  function = refl;
  set_of_a_parameter = refl;
  set_of_a_result = refl;
  sets_of_a_function = refl;
  larger_parameter = refl;
  larger_result = refl;
  type_function = refl;
  set_of_its_result = refl;
  larger_bound = refl;
  larger_result_of_it = refl;
  box_of_a_number = refl;
  set_of_a_content = refl;
  box_of_a_box = refl;
  exit = refl;
  exit_of_a_function = refl;
  exit_of_an_exit = refl;
}

pub types : example.TypeSizes
unfolding empty insert from_list placed element_order same_element
types = record {
  pure = refl;
  capability = refl;
  variable = refl;
  bound_variable = refl;
  hole_alone = refl;
  two_elements = refl;
  twice = refl;
  function = refl;
  box_in_a_box = refl;
}
