use Rattle.cc_elaboration_reasons.proofs.TextRefusals.{causes_of_modules_are_unique}
use Rattle.cc_elaboration_reasons.proofs.refused_module_laws.causes_of_modules_are_unique.Goals as goal

pub returns : goal.returns
returns c = causes_of_modules_are_unique
