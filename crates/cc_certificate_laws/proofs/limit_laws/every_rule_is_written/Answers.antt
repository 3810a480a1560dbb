use Rattle.cc_certificate_laws.proofs.EveryRule.{generic_is_written, control_is_written}
use Rattle.cc_certificate_laws.proofs.limit_laws.every_rule_is_written.Goals as goal

pub returns : goal.returns
returns c = record { generic = generic_is_written; control = control_is_written }
