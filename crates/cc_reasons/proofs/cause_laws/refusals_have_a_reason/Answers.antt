use Rattle.cc_reasons.proofs.DefinitionOutcomes.{refusals_have_a_reason}
use Rattle.cc_reasons.proofs.cause_laws.refusals_have_a_reason.Goals as goal

pub returns : goal.returns
returns c = refusals_have_a_reason
