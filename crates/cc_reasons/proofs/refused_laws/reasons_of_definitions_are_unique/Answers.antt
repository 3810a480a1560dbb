use Rattle.cc_reasons.proofs.RefusedModules.{reasons_of_definitions_are_unique}
use Rattle.cc_reasons.proofs.refused_laws.reasons_of_definitions_are_unique.Goals as goal

pub returns : goal.returns
returns c = reasons_of_definitions_are_unique
