-- The worked examples of checking, by computation.
use Rattle.std.proofs.Common.{refl}
use Rattle.cc_capture.specs.Elements.{element_order, same_element}
use Rattle.cc_capture.specs.Rising.{placed}
use Rattle.cc_capture.specs.Sets.{contains, empty, insert, from_list, retain, remove, union, flat_image, same_set}
use Rattle.cc_checking.specs.Comparison.{comparison, by_form}
use Rattle.cc_checking.specs.Outcomes.{◌>>=◌}
use Rattle.cc_checking.specs.CanonicalDerivations.{shape_derived, form_derived}
use Rattle.cc_checking.specs.DerivationSizes.{shape_nodes, form_nodes}
use Rattle.cc_checking.specs.ExampleChecks.{ConsoleIsNoUnit, ConsoleGivenAsksThree, UnitIsNoFunction, OpeningAsksForASetWithoutCap, BoundsKeepTheirNames, BoundsHaveToBeTheSame, OmittedSetsAreThoseOfContents, RecursionHasItsSignature, IdentityHasTwoNodes, PrinterHasFourteenNodes}

pub console_is_no_unit : ConsoleIsNoUnit
unfolding ◌>>=◌ comparison by_form same_set contains flat_image from_list union retain remove insert placed element_order same_element empty
console_is_no_unit = (9, refl, λ h. cc)

pub console_given_asks_three : ConsoleGivenAsksThree
unfolding ◌>>=◌ comparison by_form same_set contains flat_image from_list union retain remove insert placed element_order same_element empty
console_given_asks_three = (9, refl, λ h. cc)

pub unit_is_no_function : UnitIsNoFunction
unfolding ◌>>=◌ comparison by_form same_set contains flat_image from_list union retain remove insert placed element_order same_element empty
unit_is_no_function = (9, refl, λ h. cc)

pub opening_asks_for_a_set_without_cap : OpeningAsksForASetWithoutCap
unfolding ◌>>=◌ comparison by_form same_set contains flat_image from_list union retain remove insert placed element_order same_element empty
opening_asks_for_a_set_without_cap = (9, refl, λ h. cc)

pub bounds_keep_their_names : BoundsKeepTheirNames
unfolding ◌>>=◌ comparison by_form same_set contains flat_image from_list union retain remove insert placed element_order same_element empty
bounds_keep_their_names = (9, refl, λ h. cc)

pub bounds_have_to_be_the_same : BoundsHaveToBeTheSame
unfolding ◌>>=◌ comparison by_form same_set contains flat_image from_list union retain remove insert placed element_order same_element empty
bounds_have_to_be_the_same = (9, refl, λ h. cc)

pub omitted_sets_are_those_of_contents : OmittedSetsAreThoseOfContents
unfolding ◌>>=◌ comparison by_form same_set contains flat_image from_list union retain remove insert placed element_order same_element empty
omitted_sets_are_those_of_contents = (9, refl, λ h. cc)

pub recursion_has_its_signature : RecursionHasItsSignature
unfolding ◌>>=◌ comparison by_form same_set contains flat_image from_list union retain remove insert placed element_order same_element empty
recursion_has_its_signature = (9, refl, λ h. cc)

pub identity_has_two_nodes : IdentityHasTwoNodes
unfolding shape_derived form_derived shape_nodes form_nodes same_set contains flat_image from_list union retain remove insert placed element_order same_element empty
identity_has_two_nodes = refl

pub printer_has_fourteen_nodes : PrinterHasFourteenNodes
unfolding shape_derived form_derived shape_nodes form_nodes same_set contains flat_image from_list union retain remove insert placed element_order same_element empty
printer_has_fourteen_nodes = (refl, refl)
