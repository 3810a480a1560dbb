use Rattle.cc_checking_laws.proofs.WorkedVerdicts.{unit_applied_is_refused, name_in_bound_is_refused, tower_is_too_large, tower_inside_is_too_large, written_types_come_first, demands_are_judged_last}
use Rattle.cc_checking_laws.proofs.example_verdicts.refusals_of_inference.Goals as goal

pub returns : goal.returns
returns c = record { heads = unit_applied_is_refused; names = name_in_bound_is_refused; sizes = tower_is_too_large; sizes_of_parts = tower_inside_is_too_large; written_first = written_types_come_first; judged_last = demands_are_judged_last }
