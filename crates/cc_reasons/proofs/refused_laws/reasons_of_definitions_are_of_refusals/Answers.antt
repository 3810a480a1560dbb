use Rattle.cc_reasons.proofs.RefusedModules.{reasons_of_definitions_are_of_refusals}
use Rattle.cc_reasons.proofs.refused_laws.reasons_of_definitions_are_of_refusals.Goals as goal

pub returns : goal.returns
returns c = reasons_of_definitions_are_of_refusals
