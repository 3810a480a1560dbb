use Rattle.cc_elaboration_reasons.proofs.FirstRefusals.{causes_are_unique}
use Rattle.cc_elaboration_reasons.proofs.elaboration_cause_laws.causes_are_unique.Goals as goal

pub returns : goal.returns
returns c = causes_are_unique
