use Rattle.cc_certificate_examples.proofs.WorkedConditions as worked
use Rattle.cc_certificate_examples.proofs.rule_conditions.types_of_lets.Goals as goal

pub returns : goal.returns
returns c = worked.types_of_lets
