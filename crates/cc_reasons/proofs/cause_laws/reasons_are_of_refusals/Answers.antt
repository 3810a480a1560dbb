use Rattle.cc_reasons.proofs.DefinitionOutcomes.{reasons_are_of_refusals}
use Rattle.cc_reasons.proofs.cause_laws.reasons_are_of_refusals.Goals as goal

pub returns : goal.returns
returns c = reasons_are_of_refusals
