use Rattle.cc_certificate_examples.proofs.WorkedConditions as worked
use Rattle.cc_certificate_examples.proofs.rule_conditions.entries_of_variables.Goals as goal

pub returns : goal.returns
returns c = worked.entries_of_variables
