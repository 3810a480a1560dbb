use Rattle.cc_checking_laws.proofs.WorkedVerdicts.{console_given_is_refused, box_of_cap_is_refused, printing_again_is_refused, pure_printer_is_refused, content_of_cap_is_refused, exit_may_not_leave, boxed_exit_may_not_leave, opened_for_a_parameter_is_refused}
use Rattle.cc_checking_laws.proofs.example_verdicts.refusals.Goals as goal

pub returns : goal.returns
returns c = record { impure = console_given_is_refused; opened = box_of_cap_is_refused; recursive = printing_again_is_refused; pure = pure_printer_is_refused; content = content_of_cap_is_refused; exits = exit_may_not_leave; boxed_exits = boxed_exit_may_not_leave; filled = opened_for_a_parameter_is_refused }
