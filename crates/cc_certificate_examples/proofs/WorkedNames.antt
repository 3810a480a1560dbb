-- Worked names in claims, by computation.
use Rattle.std.proofs.Common.{◌<◌, ◌^◌, refl, arith}
use Rattle.cc_capture.specs.Elements.{element_order}
use Rattle.cc_capture.specs.Rising.{placed}
use Rattle.cc_capture.specs.Sets.{from_list, insert, empty, image}
use Rattle.cc_certificate_examples.specs.NameExamples as example

-- the greatest number
low : 4294967295 < 2 ^ 32
low = omega arith

too_great : 4294967296 < 2 ^ 32 → ⊥
too_great h = absurd (omega (arith, h))

-- a position behind two names
no_name : 2 < 2 → ⊥
no_name h = absurd (omega (arith, h))

pub placed_shapes : example.PlacedShapes
unfolding from_list insert empty placed element_order image
placed_shapes = record {
  base = refl;
  greatest = refl;
  local_variable = refl;
  position_of_a_variable = refl;
  function_over_local_variables = refl;
  type_function_over_local_variables = refl;
  box = refl;
  exit = refl;
  universal_capability = refl;
  name_in_a_set = refl;
  hole_in_a_set = refl;
}

pub placed_claims : example.PlacedClaims
unfolding from_list insert empty placed element_order image
placed_claims = record {
  sets = refl;
  shapes = refl;
  types = refl;
  type_of_a_term = refl;
}

pub names_in_sets : example.NamesInSets
unfolding from_list insert empty placed element_order image
names_in_sets = record {
  nothing = tt;
  name = (omega arith, tt);
  no_name = λ h. no_name h.0;
  greatest = (low, tt);
  greater = λ h. too_great h.0;
  universal_capability = (tt, tt);
  hole = λ h. h.0;
  second = λ h. no_name h.1.0;
}

pub names_in_shapes : example.NamesInShapes
unfolding from_list insert empty placed element_order image
names_in_shapes = record {
  base = tt;
  greatest_shape = tt;
  local_variable = low;
  greater_variable = λ h. too_great h;
  name_of_a_term = λ h. h;
  parts_of_a_function = (omega arith, omega arith, (omega arith, tt), omega arith, (omega arith, tt));
  parameter = λ h. too_great h.1;
  set_of_a_parameter = λ h. no_name h.2.0;
  result = λ h. too_great h.3;
  set_of_a_result = λ h. no_name h.4.0;
  parts_of_a_type_function = (omega arith, omega arith, omega arith, (omega arith, tt));
  bound = λ h. too_great h.1;
  result_of_a_type_function = λ h. too_great h.2;
  set_of_a_result_of_a_type_function = λ h. no_name h.3.0;
  parts_of_a_box = (omega arith, (omega arith, tt));
  content = λ h. too_great h.0;
  set_of_a_content = λ h. no_name h.1.0;
  part_of_an_exit = omega arith;
  exit = λ h. too_great h;
}

pub numbers_of_binders : example.NumbersOfBinders
unfolding from_list insert empty placed element_order image
numbers_of_binders = record {
  greatest = (low, tt, tt, tt, tt);
  greater = λ h. too_great h.0;
  greatest_of_a_type_function = (low, tt, tt, tt);
  greater_of_a_type_function = λ h. too_great h.0;
  in_a_parameter = (low, (low, tt, tt, tt, tt), tt, tt, tt);
  in_a_result = (omega arith, tt, tt, (low, tt, tt, tt, tt), tt);
  greater_in_a_result = λ h. too_great h.3.0;
  in_a_bound = (low, (low, tt, tt, tt, tt), tt, tt);
  in_a_result_of_a_type_function = (omega arith, tt, (low, tt, tt, tt, tt), tt);
  greater_in_a_result_of_a_type_function = λ h. too_great h.2.0;
  in_a_box = ((low, tt, tt, tt, tt), tt);
  greater_in_a_box = λ h. too_great h.0.0;
  in_an_exit = (low, tt, tt, tt, tt);
  greater_in_an_exit = λ h. too_great h.0;
  of_none = tt;
}

-- no variable is under no binder, and the second one is not under one
under_none : 0 < 0 → ⊥
under_none h = absurd (omega (arith, h))

not_second : 1 < 1 → ⊥
not_second h = absurd (omega (arith, h))

pub binders_around : example.BindersAround
unfolding from_list insert empty placed element_order image
binders_around = record {
  result = (omega arith, tt, tt, omega arith, tt);
  set_of_a_result = (omega arith, tt, tt, tt, (omega arith, tt));
  parameter = λ h. under_none h.1;
  set_of_a_parameter = λ h. under_none h.2.0;
  second_in_a_result = λ h. not_second h.4.0;
  result_of_a_type_function = (omega arith, tt, omega arith, tt);
  set_of_that_result = (omega arith, tt, tt, (omega arith, tt));
  bound = λ h. under_none h.1;
  second_in_a_result_of_a_type_function = λ h. not_second h.3.0;
  content = λ h. under_none h.1.0;
  exit = λ h. under_none h;
  second_under_two = (omega arith, tt, tt, (omega arith, tt, tt, tt, (omega arith, tt)), tt);
}

pub names_in_claims : example.NamesInClaims
unfolding from_list insert empty placed element_order image
names_in_claims = record {
  sets = ((omega arith, tt), (omega arith, tt));
  left_set = λ h. no_name h.0.0;
  right_set = λ h. no_name h.1.0;
  shapes = ((low, tt, tt, tt, tt), (low, tt, tt, tt, tt));
  left_shape = λ h. too_great h.0.0;
  right_shape = λ h. too_great h.1.0;
  types = (((low, tt, tt, tt, tt), (omega arith, tt)), ((low, tt, tt, tt, tt), (omega arith, tt)));
  shape_of_a_left_type = λ h. too_great h.0.0.0;
  set_of_a_left_type = λ h. no_name h.0.1.0;
  shape_of_a_right_type = λ h. too_great h.1.0.0;
  set_of_a_right_type = λ h. no_name h.1.1.0;
  type_of_a_term = ((low, tt, tt, tt, tt), (omega arith, tt));
  shape_of_a_term = λ h. too_great h.0.0;
  set_of_a_term = λ h. no_name h.1.0;
}

pub binders_in_claims : example.BindersInClaims
unfolding from_list insert empty placed element_order image
binders_in_claims = record {
  base = refl;
  greatest = refl;
  variable = refl;
  of_a_function = refl;
  of_a_type_function = refl;
  box = refl;
  box_of_a_function = refl;
  exit = refl;
  exit_of_a_function = refl;
  sets = refl;
  shapes = refl;
  left_shape = refl;
  right_shape = refl;
  types = refl;
  left_type = refl;
  right_type = refl;
  type_of_a_term = refl;
  plain_type_of_a_term = refl;
}
