use Rattle.cc_module_reasons.proofs.OneModuleReason.{module_reasons_are_unique}
use Rattle.cc_module_reasons.proofs.module_laws.module_reasons_are_unique.Goals as goal

pub returns : goal.returns
returns c = module_reasons_are_unique
