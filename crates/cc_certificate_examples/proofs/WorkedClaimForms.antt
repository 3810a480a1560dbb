-- Which claims are one, and what the rules of sets and shapes ask of what their premises claim, by example, by computation.
use Rattle.std.proofs.Common.{refl}
use Rattle.cc_capture.specs.Elements.{element_order, same_element}
use Rattle.cc_capture.specs.Rising.{placed}
use Rattle.cc_capture.specs.Sets.{contains, empty, from_list, insert, same_set}
use Rattle.cc_capture.specs.Variables.{same_variable}
use Rattle.cc_certificate_examples.specs.ClaimForms as example

pub same_claims : example.SameClaims
unfolding contains empty from_list insert same_set same_variable placed element_order same_element
same_claims = record {
  sets = refl;
  left_set = refl;
  right_set = refl;
  shapes = refl;
  left_shape = refl;
  right_shape = refl;
  types = refl;
  left_type = refl;
  right_type = refl;
  set_of_a_type = refl;
  of_a_type = refl;
  of_another_type = refl;
  sets_and_shapes = refl;
  shapes_and_types = refl;
  types_and_a_type = refl;
  no_claims = refl;
  two_claims = refl;
  in_another_order = refl;
  second_of_two = refl;
  fewer = refl;
  more = refl;
}

pub set_rules : example.SetRules
unfolding contains empty from_list insert same_set same_variable placed element_order same_element
set_rules = record {
  element = refl;
  another_element = refl;
  no_element = refl;
  two_elements = refl;
  declared = refl;
  of_another_declared_set = refl;
  below_another_set = refl;
  without_a_premise = refl;
  with_two_premises = refl;
  of_a_type_variable = refl;
  of_no_entry = refl;
  entry = refl;
  second_entry = refl;
  entry_of_no_position = refl;
  entry_of_an_index = refl;
}

pub shape_rules : example.ShapeRules
unfolding contains empty from_list insert same_set same_variable placed element_order same_element
shape_rules = record {
  chain = refl;
  chain_from_another = refl;
  chain_to_another = refl;
  chain_that_is_broken = refl;
  chain_of_none = refl;
  chain_of_one = refl;
  chain_of_three = refl;
  chain_of_types = refl;
  bound = refl;
  another_bound = refl;
  bound_of_a_term = refl;
  bound_of_no_entry = refl;
  bounded = refl;
  bounded_by_another = refl;
  bounded_term = refl;
  bounded_index = refl;
  bounded_base = refl;
  greatest = refl;
  not_greatest = refl;
  box_of_the_greatest = refl;
}
