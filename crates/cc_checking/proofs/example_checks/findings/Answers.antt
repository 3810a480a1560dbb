use Rattle.cc_checking.proofs.ComputedChecks.{console_given_asks_three, opening_asks_for_a_set_without_cap, omitted_sets_are_those_of_contents, recursion_has_its_signature}
use Rattle.cc_checking.proofs.example_checks.findings.Goals as goal

pub returns : goal.returns
returns c =
    record {
      sets_of_functions = console_given_asks_three;
      sets_of_boxes = opening_asks_for_a_set_without_cap;
      omitted_sets = omitted_sets_are_those_of_contents;
      recursion = recursion_has_its_signature;
    }
