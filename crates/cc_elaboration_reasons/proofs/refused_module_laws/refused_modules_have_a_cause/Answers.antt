use Rattle.cc_elaboration_reasons.proofs.TextRefusals.{refused_modules_have_a_cause}
use Rattle.cc_elaboration_reasons.proofs.refused_module_laws.refused_modules_have_a_cause.Goals as goal

pub returns : goal.returns
returns c = refused_modules_have_a_cause
