-- The worked examples, by computation.
use Rattle.std.proofs.Common.{refl, [], arith}
use Rattle.cc_capture.specs.Elements.{element_order, same_element}
use Rattle.cc_capture.specs.Rising.{placed}
use Rattle.cc_capture.specs.Sets.{contains, empty, insert, is_subset, same_set, flat_image, from_list, union, retain, remove}
use Rattle.cc_core.specs.Substitution.{single}
use Rattle.cc_core.proofs.Moving.{Member-single_itself}
use Rattle.cc_capture.specs.declared.var.Elem.TheVariants.{Hole}
use Rattle.cc_checking.specs.Comparison.{demanded}
use Rattle.cc_checking.specs.Fillings.{global, forced}
use Rattle.cc_checking.specs.Inference.{demand_at}
use Rattle.cc_known.specs.Keeping.{fillable}
use Rattle.cc_type.specs.KeepingExamples.{with_local, number, NumbersAreBelowNothing, ConsolesAreKept, NumbersAreForced}
use Rattle.cc_type.specs.KeepingExamples.{HolesAreBelowThemselves, HolesMayHaveCap, ConsolesAreLost}
use Rattle.cc_type.specs.KeepingExamples.{OneLostAndWhatForcesAreKept, WhatMayFailIsKept, RepeatedIsKeptOnce}
use Rattle.cc_type.specs.KeepingExamples.{OneOfAlikeEndsIsKept, LocalsAboveAreNotSeen}
use Rattle.cc_type.specs.KeepingExamples.{GreatestIsFound}

pub numbers_are_below_nothing : NumbersAreBelowNothing
unfolding contains empty insert placed element_order same_element is_subset
numbers_are_below_nothing = refl

pub consoles_are_kept : ConsolesAreKept
unfolding contains empty insert placed element_order same_element is_subset
consoles_are_kept = refl

pub numbers_are_forced : NumbersAreForced
unfolding contains empty insert placed element_order same_element is_subset
numbers_are_forced at = (
  refl,
  forced (demanded with_local (single number) (single (Hole 0)))
      ([], demand_at at (demanded with_local (single number) (single (Hole 0))), [], refl, refl) refl
      (Member-single_itself number) (global (omega arith)),
)

pub holes_are_below_themselves : HolesAreBelowThemselves
unfolding contains empty insert placed element_order same_element is_subset
holes_are_below_themselves = refl

pub holes_may_have_cap : HolesMayHaveCap
unfolding contains empty insert placed element_order same_element is_subset
holes_may_have_cap = (refl, refl, refl)

pub consoles_are_lost : ConsolesAreLost
unfolding contains empty insert placed element_order same_element is_subset flat_image from_list union
consoles_are_lost = (refl, refl, refl, refl, refl)

pub one_lost_and_what_forces_are_kept : OneLostAndWhatForcesAreKept
unfolding contains empty insert placed element_order same_element is_subset same_set flat_image from_list union retain remove
one_lost_and_what_forces_are_kept at = refl

pub what_may_fail_is_kept : WhatMayFailIsKept
unfolding contains empty insert placed element_order same_element is_subset same_set flat_image from_list union retain remove
what_may_fail_is_kept at = refl

pub repeated_is_kept_once : RepeatedIsKeptOnce
unfolding contains empty insert placed element_order same_element is_subset same_set flat_image from_list union retain remove fillable
repeated_is_kept_once at other = (refl, refl)

pub one_of_alike_ends_is_kept : OneOfAlikeEndsIsKept
unfolding contains empty insert placed element_order same_element is_subset same_set flat_image from_list union retain remove fillable
one_of_alike_ends_is_kept at other = (refl, refl, refl)

pub locals_above_are_not_seen : LocalsAboveAreNotSeen
unfolding contains empty insert placed element_order same_element is_subset same_set flat_image from_list union retain remove fillable
locals_above_are_not_seen at other = (refl, refl)

pub greatest_is_found : GreatestIsFound
unfolding contains empty insert placed element_order same_element is_subset
greatest_is_found = (refl, refl)
