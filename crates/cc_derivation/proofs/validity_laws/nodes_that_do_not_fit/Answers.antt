use Rattle.cc_derivation.proofs.WorkedDerivations.{too_many_premises, too_few_premises, claim_of_another_kind, rule_of_another_form, omitted_set, rule_of_another_comparison, no_variable_alone, bounds_that_differ, premises_of_the_rule_count}
use Rattle.cc_derivation.proofs.validity_laws.nodes_that_do_not_fit.Goals as goal

pub returns : goal.returns
returns c =
    record {
      too_many = too_many_premises;
      too_few = too_few_premises;
      other_kind = claim_of_another_kind;
      other_form = rule_of_another_form;
      omitted_set = omitted_set;
      other_comparison = rule_of_another_comparison;
      no_variable = no_variable_alone;
      other_bounds = bounds_that_differ;
      fits = premises_of_the_rule_count;
    }
