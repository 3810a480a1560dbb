use Rattle.cc_reasons.proofs.RefusedModules.{refused_definitions_have_a_reason}
use Rattle.cc_reasons.proofs.refused_laws.refused_definitions_have_a_reason.Goals as goal

pub returns : goal.returns
returns c = refused_definitions_have_a_reason
