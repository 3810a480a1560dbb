use Rattle.cc_module_reasons.proofs.OneModuleReason.{refused_modules_have_a_reason}
use Rattle.cc_module_reasons.proofs.module_laws.refused_modules_have_a_reason.Goals as goal

pub returns : goal.returns
returns c = refused_modules_have_a_reason
