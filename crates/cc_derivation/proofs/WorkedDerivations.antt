-- The worked derivations, by computation.
use Rattle.std.proofs.Common.{refl}
use Rattle.cc_capture.specs.Elements.{same_element, element_order}
use Rattle.cc_capture.specs.Rising.{placed}
use Rattle.cc_capture.specs.Sets.{contains, empty, insert, union, from_list, flat_image, same_set}
use Rattle.cc_derivation.specs.ValidityExamples as example

pub identity_is_whole : example.IdentityIsWhole
unfolding contains same_element element_order insert placed empty from_list flat_image same_set union
identity_is_whole = refl

pub claim_without_the_variable : example.ClaimWithoutTheVariable
unfolding contains same_element element_order insert placed empty from_list flat_image same_set union
claim_without_the_variable = refl

pub root_alone : example.RootAlone
unfolding contains same_element element_order insert placed empty from_list flat_image same_set union
root_alone = refl

pub too_many_premises : example.TooManyPremises
too_many_premises = refl

pub too_few_premises : example.TooFewPremises
too_few_premises = refl

pub claim_of_another_kind : example.ClaimOfAnotherKind
claim_of_another_kind = refl

pub rule_of_another_form : example.RuleOfAnotherForm
rule_of_another_form = refl

pub omitted_set : example.OmittedSet
omitted_set = refl

pub rule_of_another_comparison : example.RuleOfAnotherComparison
rule_of_another_comparison = refl

pub no_variable_alone : example.NoVariableAlone
unfolding contains same_element element_order insert placed empty from_list flat_image same_set union
no_variable_alone = refl

pub bounds_that_differ : example.BoundsThatDiffer
unfolding contains same_element element_order insert placed empty from_list flat_image same_set union
bounds_that_differ = refl

pub premises_of_the_rule_count : example.PremisesOfTheRuleCount
unfolding contains same_element element_order insert placed empty from_list flat_image same_set union
premises_of_the_rule_count = refl

pub let_without_a_type : example.LetWithoutAType
let_without_a_type = refl

pub let_with_a_type : example.LetWithAType
unfolding contains same_element element_order insert placed empty from_list flat_image same_set union
let_with_a_type = refl

pub part_at_two_places : example.PartAtTwoPlaces
part_at_two_places = refl
