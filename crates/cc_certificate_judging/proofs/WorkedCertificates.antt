-- The worked certificates, by computation.
use Rattle.std.proofs.Common.{refl}
use Rattle.cc_capture.specs.Elements.{same_element, element_order}
use Rattle.cc_capture.specs.Rising.{placed}
use Rattle.cc_capture.specs.Sets.{contains, empty, insert, union, from_list, flat_image, same_set}
use Rattle.cc_certificate_judging.specs.JudgingExamples as example

pub nodes_of_the_identity : example.NodesOfTheIdentity
nodes_of_the_identity = refl

pub identity_is_whole : example.IdentityIsWhole
unfolding contains same_element element_order insert placed empty from_list flat_image same_set union
identity_is_whole = refl

pub type_without_the_local : example.TypeWithoutTheLocal
unfolding contains same_element element_order insert placed empty from_list flat_image same_set union
type_without_the_local = refl

pub another_number_of_the_binder : example.AnotherNumberOfTheBinder
unfolding contains same_element element_order insert placed empty from_list flat_image same_set union
another_number_of_the_binder = refl

pub local_of_its_kind : example.LocalOfItsKind
unfolding contains same_element element_order insert placed empty from_list flat_image same_set union
local_of_its_kind = refl

pub local_of_the_other_kind : example.LocalOfTheOtherKind
unfolding contains same_element element_order insert placed empty from_list flat_image same_set union
local_of_the_other_kind = refl

pub local_without_a_binder : example.LocalWithoutABinder
unfolding contains same_element element_order insert placed empty from_list flat_image same_set union
local_without_a_binder = refl

pub results_under_the_parameter : example.ResultsUnderTheParameter
unfolding contains same_element element_order insert placed empty from_list flat_image same_set union
results_under_the_parameter = refl

pub let_without_a_type : example.LetWithoutAType
unfolding contains same_element element_order insert placed empty from_list flat_image same_set union
let_without_a_type = refl

pub let_with_a_type : example.LetWithAType
unfolding contains same_element element_order insert placed empty from_list flat_image same_set union
let_with_a_type = refl
