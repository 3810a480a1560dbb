use Rattle.cc_checking_laws.proofs.WorkedSignatures.{widened_and_narrowed_is_accepted, called_twice_fills_with_both_is_accepted, one_hole_fills_the_other_is_accepted, nothing_fills_the_holes_is_accepted, opened_for_nothing_is_accepted, identity_is_accepted, opened_after_identity_is_accepted, nested_boundaries_is_accepted, chosen_has_both_sets_is_accepted, lower_tower_is_accepted}
use Rattle.cc_checking_laws.proofs.example_verdicts.accepted.Goals as goal

pub returns : goal.returns
returns c = record { avoided = widened_and_narrowed_is_accepted; filled = called_twice_fills_with_both_is_accepted; filled_through = one_hole_fills_the_other_is_accepted; not_filled = nothing_fills_the_holes_is_accepted; opened = opened_for_nothing_is_accepted; type_functions = identity_is_accepted; applied = opened_after_identity_is_accepted; boundaries = nested_boundaries_is_accepted; choices = chosen_has_both_sets_is_accepted; sizes = lower_tower_is_accepted }
