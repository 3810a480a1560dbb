use Rattle.cc_certificate_examples.proofs.WorkedConditions as worked
use Rattle.cc_certificate_examples.proofs.rule_conditions.well_formed_parts.Goals as goal

pub returns : goal.returns
returns c = worked.well_formed_parts
