use Rattle.cc_certificate_examples.proofs.WorkedConditions as worked
use Rattle.cc_certificate_examples.proofs.rule_conditions.arguments_of_operations.Goals as goal

pub returns : goal.returns
returns c = worked.arguments_of_operations
