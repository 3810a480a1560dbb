-- The worked canonical derivations, by computation.
use Rattle.std.proofs.Common.{refl}
use Rattle.cc_capture.specs.Elements.{element_order, same_element}
use Rattle.cc_capture.specs.Rising.{placed}
use Rattle.cc_capture.specs.Variables.{same_variable}
use Rattle.cc_capture.specs.Sets.{contains, empty, insert, from_list, retain, remove, union, flat_image, same_set}
use Rattle.cc_checking.specs.CanonicalDerivations.{shape_derived, form_derived}
use Rattle.cc_checking_laws.specs.ExampleDerivations.{WrittenNamesAreWidened, OtherNamesAreNot, OpenedBoxesAreWidened, OpenedBoxesHaveTheSet, ExposedHeadsAreWidened, WholesAreWidened, BranchesAreWidened, BodiesOfBoundariesAreWidened}

pub written_names_are_widened : WrittenNamesAreWidened
unfolding shape_derived form_derived same_set contains flat_image from_list union retain remove insert placed element_order same_element empty
written_names_are_widened = refl

pub other_names_are_not : OtherNamesAreNot
unfolding shape_derived form_derived same_set contains flat_image from_list union retain remove insert placed element_order same_element empty
other_names_are_not = refl

pub opened_boxes_are_widened : OpenedBoxesAreWidened
unfolding shape_derived form_derived same_set contains flat_image from_list union retain remove insert placed element_order same_element empty
opened_boxes_are_widened = refl

pub opened_boxes_have_the_set : OpenedBoxesHaveTheSet
unfolding shape_derived form_derived same_set contains flat_image from_list union retain remove insert placed element_order same_element empty
opened_boxes_have_the_set = refl

pub exposed_heads_are_widened : ExposedHeadsAreWidened
unfolding shape_derived form_derived same_set contains flat_image from_list union retain remove insert placed element_order same_element same_variable empty
exposed_heads_are_widened = refl

pub wholes_are_widened : WholesAreWidened
unfolding shape_derived form_derived same_set contains flat_image from_list union retain remove insert placed element_order same_element empty
wholes_are_widened = refl

pub branches_are_widened : BranchesAreWidened
unfolding shape_derived form_derived same_set contains flat_image from_list union retain remove insert placed element_order same_element empty
branches_are_widened = refl

pub bodies_of_boundaries_are_widened : BodiesOfBoundariesAreWidened
unfolding shape_derived form_derived same_set contains flat_image from_list union retain remove insert placed element_order same_element empty
bodies_of_boundaries_are_widened = refl
