use Rattle.cc_elaboration_reasons.proofs.FirstRefusals.{elaborated_modules_have_no_cause}
use Rattle.cc_elaboration_reasons.proofs.elaboration_cause_laws.elaborated_modules_have_no_cause.Goals as goal

pub returns : goal.returns
returns c = elaborated_modules_have_no_cause
