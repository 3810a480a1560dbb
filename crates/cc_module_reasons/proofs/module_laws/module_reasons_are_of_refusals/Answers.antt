use Rattle.cc_module_reasons.proofs.OneModuleReason.{module_reasons_are_of_refusals}
use Rattle.cc_module_reasons.proofs.module_laws.module_reasons_are_of_refusals.Goals as goal

pub returns : goal.returns
returns c = module_reasons_are_of_refusals
