use Rattle.cc_reasons.proofs.DefinitionOutcomes.{explained_definitions_are_checked}
use Rattle.cc_reasons.proofs.cause_laws.explained_definitions_are_checked.Goals as goal

pub returns : goal.returns
returns c = explained_definitions_are_checked
