use Rattle.cc_elaboration_reasoning.proofs.FoundFirst.{first_refusal_is_found}
use Rattle.cc_elaboration_reasoning.proofs.finding_laws.first_refusal_is_found.Goals as goal

pub returns : goal.returns
returns c = first_refusal_is_found
