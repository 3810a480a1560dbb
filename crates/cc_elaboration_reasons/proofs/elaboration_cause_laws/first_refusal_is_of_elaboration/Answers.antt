use Rattle.cc_elaboration_reasons.proofs.FirstRefusals.{first_refusal_is_of_elaboration}
use Rattle.cc_elaboration_reasons.proofs.elaboration_cause_laws.first_refusal_is_of_elaboration.Goals as goal

pub returns : goal.returns
returns c = first_refusal_is_of_elaboration
