use Rattle.cc_elaboration_reasons.proofs.FirstRefusals.{refusals_have_a_cause}
use Rattle.cc_elaboration_reasons.proofs.elaboration_cause_laws.refusals_have_a_cause.Goals as goal

pub returns : goal.returns
returns c = refusals_have_a_cause
