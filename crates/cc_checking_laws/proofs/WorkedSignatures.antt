-- The worked definitions that are accepted, by computation.
use Rattle.std.proofs.Common.{refl}
use Rattle.cc_capture.specs.Elements.{element_order, same_element}
use Rattle.cc_capture.specs.Rising.{placed}
use Rattle.cc_capture.specs.Variables.{same_variable}
use Rattle.cc_capture.specs.Sets.{contains, empty, insert, from_list, retain, remove, union, flat_image, same_set, is_subset}
use Rattle.cc_checking.specs.Comparison.{comparison, by_form}
use Rattle.cc_checking.specs.Outcomes.{◌>>=◌}
use Rattle.cc_checking_laws.proofs.ComputedVerdicts.{accepted_in_steps}
use Rattle.cc_checking_laws.specs.ExampleVerdicts.{WidenedAndNarrowed, CalledTwiceFillsWithBoth, OneHoleFillsTheOther, NothingFillsTheHoles, OpenedForNothing, Identity, OpenedAfterIdentity, NestedBoundaries, ChosenHasBothSets, LowerTower, CountingDown, CountingFromThree, PrintingForEver}
use Rattle.cc_base.specs.declared.literal.Base.TheVariants as bases
use Rattle.cc_capture.specs.declared.var.Elem.TheVariants.{Cap}
use Rattle.cc_core.specs.Shapes.{BaseShape, FunctionShape, capturing}
use Rattle.cc_core.specs.Substitution.{single}
use Rattle.cc_checking.specs.ComparisonExamples.{number, nothing, printing, first, parameter}
use Rattle.cc_checking.specs.ExampleChecks.{from_nothing, console}
use Rattle.cc_checking_laws.specs.ExampleDefinitions.{with_devices, both_devices}
use Rattle.cc_checking_laws.specs.ExampleDefinitions.{widened_and_narrowed}
use Rattle.cc_checking_laws.specs.ExampleDefinitions.{called_twice, depending, not_depending}
use Rattle.cc_checking_laws.specs.ExampleDefinitions.{opened_for_nothing, counting}
use Rattle.cc_checking_laws.specs.ExampleDefinitions.{counting_down, after_down, counting_from_three, after_main}
use Rattle.cc_checking_laws.specs.ExampleDefinitions.{printing_for_ever, identity, identity_shape, after_identity}
use Rattle.cc_checking_laws.specs.ExampleDefinitions.{opened_after_identity, nested_boundaries, after_two, chosen}
use Rattle.cc_checking_laws.specs.ExampleDefinitions.{tower, taking_tower}

pub widened_and_narrowed_is_accepted : WidenedAndNarrowed
unfolding ◌>>=◌ comparison by_form same_set contains flat_image from_list union retain remove insert placed element_order same_element empty is_subset
widened_and_narrowed_is_accepted = accepted_in_steps 9 2 with_devices widened_and_narrowed (capturing (FunctionShape console (single Cap) (FunctionShape printing empty nothing empty) (single parameter)) empty) refl

pub called_twice_fills_with_both_is_accepted : CalledTwiceFillsWithBoth
unfolding ◌>>=◌ comparison by_form same_set contains flat_image from_list union retain remove insert placed element_order same_element empty is_subset
called_twice_fills_with_both_is_accepted = accepted_in_steps 9 2 with_devices called_twice (capturing (FunctionShape nothing empty (FunctionShape printing both_devices nothing empty) empty) both_devices) refl

pub one_hole_fills_the_other_is_accepted : OneHoleFillsTheOther
unfolding ◌>>=◌ comparison by_form same_set contains flat_image from_list union retain remove insert placed element_order same_element empty is_subset
one_hole_fills_the_other_is_accepted = accepted_in_steps 9 2 with_devices depending (capturing (FunctionShape console (single Cap) (FunctionShape printing (single Cap) nothing empty) empty) empty) refl

pub nothing_fills_the_holes_is_accepted : NothingFillsTheHoles
unfolding ◌>>=◌ comparison by_form same_set contains flat_image from_list union retain remove insert placed element_order same_element empty is_subset
nothing_fills_the_holes_is_accepted = accepted_in_steps 9 2 with_devices not_depending (capturing (FunctionShape console (single Cap) (FunctionShape printing empty nothing empty) empty) empty) refl

pub opened_for_nothing_is_accepted : OpenedForNothing
unfolding ◌>>=◌ comparison by_form same_set contains flat_image from_list union retain remove insert placed element_order same_element empty is_subset
opened_for_nothing_is_accepted = accepted_in_steps 9 2 with_devices opened_for_nothing (capturing (FunctionShape console (single Cap) (FunctionShape printing empty nothing empty) (single first)) (single first)) refl

pub identity_is_accepted : Identity
unfolding ◌>>=◌ comparison by_form same_set contains flat_image from_list union retain remove insert placed element_order same_element same_variable empty is_subset
identity_is_accepted = accepted_in_steps 9 2 with_devices identity (capturing identity_shape empty) refl

pub opened_after_identity_is_accepted : OpenedAfterIdentity
unfolding ◌>>=◌ comparison by_form same_set contains flat_image from_list union retain remove insert placed element_order same_element empty is_subset
opened_after_identity_is_accepted = accepted_in_steps 9 2 after_identity opened_after_identity (capturing (from_nothing number empty) (single first)) refl

pub nested_boundaries_is_accepted : NestedBoundaries
unfolding ◌>>=◌ comparison by_form same_set contains flat_image from_list union retain remove insert placed element_order same_element empty is_subset
nested_boundaries_is_accepted = accepted_in_steps 9 2 with_devices nested_boundaries (capturing (from_nothing nothing empty) (single first)) refl

pub chosen_has_both_sets_is_accepted : ChosenHasBothSets
unfolding ◌>>=◌ comparison by_form same_set contains flat_image from_list union retain remove insert placed element_order same_element empty is_subset
chosen_has_both_sets_is_accepted = accepted_in_steps 9 2 after_two chosen (capturing (FunctionShape (BaseShape bases.Bool) empty printing both_devices) both_devices) refl

pub lower_tower_is_accepted : LowerTower
unfolding ◌>>=◌ comparison by_form same_set contains flat_image from_list union retain remove insert placed element_order same_element empty is_subset
lower_tower_is_accepted = accepted_in_steps 9 2 with_devices (taking_tower 10) (capturing (FunctionShape (tower 10) empty nothing empty) empty) refl

pub counting_down_is_accepted : CountingDown
unfolding ◌>>=◌ comparison by_form same_set contains flat_image from_list union retain remove insert placed element_order same_element empty is_subset
counting_down_is_accepted = accepted_in_steps 9 2 with_devices counting_down (capturing counting empty) refl

pub counting_from_three_is_accepted : CountingFromThree
unfolding ◌>>=◌ comparison by_form same_set contains flat_image from_list union retain remove insert placed element_order same_element empty is_subset
counting_from_three_is_accepted = accepted_in_steps 9 2 after_down counting_from_three (capturing (from_nothing number empty) empty) refl

pub printing_for_ever_is_accepted : PrintingForEver
unfolding ◌>>=◌ comparison by_form same_set contains flat_image from_list union retain remove insert placed element_order same_element empty is_subset
printing_for_ever_is_accepted = accepted_in_steps 9 2 after_main printing_for_ever (capturing (from_nothing nothing empty) (single first)) refl
