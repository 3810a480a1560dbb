-- Worked parts of judging, and of what is written, by computation.
use Rattle.std.proofs.Common.{refl}
use Rattle.std.specs.Fmt.{digits}
use Rattle.cc_capture.specs.Elements.{element_order, same_element}
use Rattle.cc_capture.specs.Rising.{placed}
use Rattle.cc_capture.specs.Variables.{same_variable}
use Rattle.cc_capture.specs.Sets.{contains, same_set, image, flat_image, from_list, union, retain, remove, insert, empty}
use Rattle.cc_certificate_examples.specs.JudgingFacts as example
use lib.Utf8.{encode}

pub numbers_at_a_place : example.NumbersAtAPlace
unfolding contains same_element same_variable element_order insert placed empty from_list flat_image same_set union
    retain remove image digits encode
numbers_at_a_place = record {
  first_local = refl;
  last_local = refl;
  outer_binder = refl;
  inner_binder = refl;
  no_binder = refl;
  binder_alone = refl;
  outside = refl;
  sets = refl;
  shapes = refl;
  types = refl;
  under_binders = refl;
}

pub binders_at_premises : example.BindersAtPremises
unfolding contains same_element same_variable element_order insert placed empty from_list flat_image same_set union
    retain remove image digits encode
binders_at_premises = record {
  body_of_a_function = refl;
  body_of_a_type_function = refl;
  body_of_a_boundary = refl;
  right_side_of_a_let = refl;
  body_of_a_let = refl;
  parameters = refl;
  results = refl;
  bounds = refl;
  results_of_type_functions = refl;
  contents = refl;
  branch = refl;
  other_branch = refl;
  third_of_a_let = refl;
  widening = refl;
  comparison_of_a_widening = refl;
  innermost = refl;
  no_binder = refl;
}

pub names_at_a_place : example.NamesAtAPlace
unfolding contains same_element same_variable element_order insert placed empty from_list flat_image same_set union
    retain remove image digits encode
names_at_a_place = record {
  no_binders = refl;
  binders = refl;
  too_low = refl;
  too_high = refl;
  of_a_local_variable = refl;
  of_no_local_variable = refl;
  of_a_type_variable = refl;
  of_a_type_variable_as_a_shape = refl;
  of_a_variable_as_a_shape = refl;
  of_a_binder = refl;
  of_another_binder = refl;
  read = refl;
  not_of_sets = refl;
  of_sets = refl;
}

pub listed_nodes : example.ListedNodes
unfolding contains same_element same_variable element_order insert placed empty from_list flat_image same_set union
    retain remove image digits encode
listed_nodes = record {
  roots = refl;
  in_order = refl;
  behind_others = refl;
}

pub answers_in_words : example.AnswersInWords
unfolding contains same_element same_variable element_order insert placed empty from_list flat_image same_set union
    retain remove image digits encode
answers_in_words = record {
  valid = refl;
  bad_line = refl;
  bad_node = refl;
  valid_is_valid = refl;
  bad_line_is_not = refl;
  bad_node_is_not = refl;
}

pub written_certificates : example.WrittenCertificates
unfolding contains same_element same_variable element_order insert placed empty from_list flat_image same_set union
    retain remove image digits encode
written_certificates = record {
  with_two_binds = refl;
  bind_of_a_type_variable = refl;
  binds_in_order = refl;
  line_at_a_position = refl;
  nothing_at_a_position = refl;
  behind_a_front = refl;
}
