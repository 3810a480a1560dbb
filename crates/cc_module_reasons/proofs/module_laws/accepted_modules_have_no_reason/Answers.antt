use Rattle.cc_module_reasons.proofs.OneModuleReason.{accepted_modules_have_no_reason}
use Rattle.cc_module_reasons.proofs.module_laws.accepted_modules_have_no_reason.Goals as goal

pub returns : goal.returns
returns c = accepted_modules_have_no_reason
