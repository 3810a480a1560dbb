-- Conditions of rules that alone do not hold, by computation.
use Rattle.std.proofs.Common.{refl}
use Rattle.std.specs.Fmt.{digits}
use Rattle.cc_capture.specs.Elements.{element_order, same_element}
use Rattle.cc_capture.specs.Rising.{placed}
use Rattle.cc_capture.specs.Variables.{same_variable}
use Rattle.cc_capture.specs.Sets.{contains, same_set, image, flat_image, from_list, union, retain, remove, insert, empty}
use Rattle.cc_certificate_examples.specs.RuleConditions as example
use lib.Utf8.{encode}

pub well_formed_parts : example.WellFormedParts
unfolding contains same_element same_variable element_order insert placed empty from_list flat_image same_set union
    retain remove image digits encode
well_formed_parts = record {
  parameter = refl;
  set_of_a_parameter = refl;
  bound = refl;
  argument_of_a_type_function = refl;
  set_of_an_unboxing = refl;
  shape_of_a_boundary = refl;
  type_of_an_exit = refl;
  type_above = refl;
}

pub types_of_lets : example.TypesOfLets
unfolding contains same_element same_variable element_order insert placed empty from_list flat_image same_set union
    retain remove image digits encode
types_of_lets = record {
  in_its_set = refl;
  in_its_shape = refl;
  without_a_set = refl;
}

pub arguments_of_operations : example.ArgumentsOfOperations
unfolding contains same_element same_variable element_order insert placed empty from_list flat_image same_set union
    retain remove image digits encode
arguments_of_operations = record {
  missing = refl;
  too_many = refl;
}

pub entries_of_variables : example.EntriesOfVariables
unfolding contains same_element same_variable element_order insert placed empty from_list flat_image same_set union
    retain remove image digits encode
entries_of_variables = record {
  set_of_a_type_variable = refl;
  set_of_no_variable = refl;
  set_of_an_index = refl;
  bound_of_a_variable = refl;
  bound_of_no_variable = refl;
  type_of_a_type_variable = refl;
  type_of_no_variable = refl;
}
