-- The worked examples, by computation.
use Rattle.std.proofs.Common.{refl}
use Rattle.cc_capture.specs.Elements.{element_order, same_element}
use Rattle.cc_capture.specs.Rising.{placed}
use Rattle.cc_capture.specs.Sets.{contains, empty, insert, from_list, retain, remove, union, flat_image, same_set}
use Rattle.cc_checking.specs.Comparison.{comparison, by_form}
use Rattle.cc_checking.specs.ComparisonExamples.{PrintingDemands, BoxesAreBelowAny, DifferentBoundsMismatch, VariablesCompareAsTheirBounds, ExposingGoesOn, ParametersGoRightToLeft, AvoidingWidensAndNarrows, AvoidingTurnsTwice, BoundsAreNotAvoided, ExitsAreNotAvoided}

pub printing_demands : PrintingDemands
unfolding comparison same_set insert placed element_order same_element empty
printing_demands = (1, refl)

pub boxes_are_below_any : BoxesAreBelowAny
unfolding comparison
boxes_are_below_any = (1, refl)

pub different_bounds_mismatch : DifferentBoundsMismatch
unfolding comparison by_form
different_bounds_mismatch = (1, refl)

pub variables_compare_as_their_bounds : VariablesCompareAsTheirBounds
unfolding comparison by_form
variables_compare_as_their_bounds = (2, refl)

pub exposing_goes_on : ExposingGoesOn
exposing_goes_on = refl

pub parameters_go_right_to_left : ParametersGoRightToLeft
unfolding comparison by_form same_set flat_image from_list insert placed element_order same_element empty
parameters_go_right_to_left = (3, refl)

pub avoiding_widens_and_narrows : AvoidingWidensAndNarrows
unfolding contains remove retain union from_list insert placed element_order same_element empty
avoiding_widens_and_narrows = refl

pub avoiding_turns_twice : AvoidingTurnsTwice
unfolding contains remove retain union from_list insert placed element_order same_element empty
avoiding_turns_twice = refl

pub bounds_are_not_avoided : BoundsAreNotAvoided
unfolding contains insert placed element_order same_element empty
bounds_are_not_avoided = refl

pub exits_are_not_avoided : ExitsAreNotAvoided
unfolding contains insert placed element_order same_element empty
exits_are_not_avoided = refl
