-- The worked refusals, and one whole accepted definition, by computation.
use Rattle.std.proofs.Common.{refl}
use Rattle.cc_capture.specs.Elements.{element_order, same_element}
use Rattle.cc_capture.specs.Rising.{placed}
use Rattle.cc_capture.specs.Sets.{contains, empty, insert, from_list, retain, remove, union, flat_image, same_set, is_subset}
use Rattle.cc_checking.specs.Comparison.{comparison, by_form}
use Rattle.cc_checking.specs.Outcomes.{◌>>=◌}
use Rattle.cc_checking_laws.proofs.ComputedVerdicts.{verdict_in_steps}
use Rattle.cc_checking_laws.specs.ExampleDefinitions.{passing_itself}
use Rattle.cc_checking_laws.specs.ExampleVerdicts.{itself_passed, OwnNamesAreNoGlobals, ConsoleGivenIsRefused, BoxOfCapIsRefused, PrintingAgainIsRefused, PurePrinterIsRefused, ContentOfCapIsRefused, ExitMayNotLeave, BoxedExitMayNotLeave, OpenedForAParameterIsRefused, UnitAppliedIsRefused, NameInBoundIsRefused, TowerIsTooLarge, TowerInsideIsTooLarge, WrittenTypesComeFirst, DemandsAreJudgedLast}
use Rattle.cc_base.specs.declared.code.Code.TheVariants.{E13, E14, E15, E16, E17, E18}
use Rattle.cc_checking.specs.ComparisonExamples.{with_console}
use Rattle.cc_checking.specs.Verdicts.{IsAccepted, IsRefused}
use Rattle.cc_checking.specs.ExampleChecks.{place, console_given, box_of_cap_opened, printing_again}
use Rattle.cc_checking_laws.specs.ExampleDefinitions.{with_devices, pure_printer, content_of_cap}
use Rattle.cc_checking_laws.specs.ExampleDefinitions.{exit_that_would_leave}
use Rattle.cc_checking_laws.specs.ExampleDefinitions.{boxed_exit_that_would_leave}
use Rattle.cc_checking_laws.specs.ExampleDefinitions.{opened_for_a_parameter}
use Rattle.cc_checking_laws.specs.ExampleDefinitions.{taking_tower, taking_tower_inside, unit_applied}
use Rattle.cc_checking_laws.specs.ExampleDefinitions.{name_in_bound, wrong_twice, impure_and_wrong}
use Rattle.std.specs.Prelude.{[]}

pub console_given_is_refused : ConsoleGivenIsRefused
unfolding ◌>>=◌ comparison by_form same_set contains flat_image from_list union retain remove insert placed element_order same_element empty is_subset
console_given_is_refused = verdict_in_steps 9 1 with_console console_given (IsRefused E15 (place 1 31)) refl

pub box_of_cap_is_refused : BoxOfCapIsRefused
unfolding ◌>>=◌ comparison by_form same_set contains flat_image from_list union retain remove insert placed element_order same_element empty is_subset
box_of_cap_is_refused = verdict_in_steps 9 0 [] box_of_cap_opened (IsRefused E16 (place 1 30)) refl

pub printing_again_is_refused : PrintingAgainIsRefused
unfolding ◌>>=◌ comparison by_form same_set contains flat_image from_list union retain remove insert placed element_order same_element empty is_subset
printing_again_is_refused = verdict_in_steps 9 1 with_console printing_again (IsRefused E15 (place 1 32)) refl

pub pure_printer_is_refused : PurePrinterIsRefused
unfolding ◌>>=◌ comparison by_form same_set contains flat_image from_list union retain remove insert placed element_order same_element empty is_subset
pure_printer_is_refused = verdict_in_steps 9 2 with_devices pure_printer (IsRefused E15 (place 1 27)) refl

pub content_of_cap_is_refused : ContentOfCapIsRefused
unfolding ◌>>=◌ comparison by_form same_set contains flat_image from_list union retain remove insert placed element_order same_element empty is_subset
content_of_cap_is_refused = verdict_in_steps 9 2 with_devices content_of_cap (IsRefused E16 (place 3 4)) refl

pub exit_may_not_leave : ExitMayNotLeave
unfolding ◌>>=◌ comparison by_form same_set contains flat_image from_list union retain remove insert placed element_order same_element empty is_subset
exit_may_not_leave = verdict_in_steps 9 2 with_devices exit_that_would_leave (IsRefused E15 (place 3 5)) refl

pub boxed_exit_may_not_leave : BoxedExitMayNotLeave
unfolding ◌>>=◌ comparison by_form same_set contains flat_image from_list union retain remove insert placed element_order same_element empty is_subset
boxed_exit_may_not_leave = verdict_in_steps 9 2 with_devices boxed_exit_that_would_leave (IsRefused E15 (place 2 42)) refl

pub opened_for_a_parameter_is_refused : OpenedForAParameterIsRefused
unfolding ◌>>=◌ comparison by_form same_set contains flat_image from_list union retain remove insert placed element_order same_element empty is_subset
opened_for_a_parameter_is_refused = verdict_in_steps 9 1 with_console opened_for_a_parameter (IsRefused E15 (place 3 33)) refl

pub unit_applied_is_refused : UnitAppliedIsRefused
unfolding ◌>>=◌ comparison by_form same_set contains flat_image from_list union retain remove insert placed element_order same_element empty is_subset
unit_applied_is_refused = verdict_in_steps 9 2 with_devices unit_applied (IsRefused E13 (place 1 26)) refl

pub name_in_bound_is_refused : NameInBoundIsRefused
unfolding ◌>>=◌ comparison by_form same_set contains flat_image from_list union retain remove insert placed element_order same_element empty is_subset
name_in_bound_is_refused = verdict_in_steps 9 2 with_devices name_in_bound (IsRefused E17 (place 1 26)) refl

pub tower_is_too_large : TowerIsTooLarge
unfolding ◌>>=◌ comparison by_form same_set contains flat_image from_list union retain remove insert placed element_order same_element empty is_subset
tower_is_too_large = verdict_in_steps 9 2 with_devices (taking_tower 11) (IsRefused E18 (place 1 9)) refl

pub tower_inside_is_too_large : TowerInsideIsTooLarge
unfolding ◌>>=◌ comparison by_form same_set contains flat_image from_list union retain remove insert placed element_order same_element empty is_subset
tower_inside_is_too_large = verdict_in_steps 9 2 with_devices (taking_tower_inside 11) (IsRefused E18 (place 1 26)) refl

pub written_types_come_first : WrittenTypesComeFirst
unfolding ◌>>=◌ comparison by_form same_set contains flat_image from_list union retain remove insert placed element_order same_element empty is_subset
written_types_come_first = verdict_in_steps 9 2 with_devices wrong_twice (IsRefused E14 (place 1 39)) refl

pub demands_are_judged_last : DemandsAreJudgedLast
unfolding ◌>>=◌ comparison by_form same_set contains flat_image from_list union retain remove insert placed element_order same_element empty is_subset
demands_are_judged_last = verdict_in_steps 9 2 with_devices impure_and_wrong (IsRefused E13 (place 1 82)) refl

pub own_names_are_no_globals : OwnNamesAreNoGlobals
unfolding ◌>>=◌ comparison by_form same_set contains flat_image from_list union retain remove insert placed element_order same_element empty is_subset
own_names_are_no_globals = verdict_in_steps 9 2 with_devices passing_itself (IsAccepted itself_passed) refl
