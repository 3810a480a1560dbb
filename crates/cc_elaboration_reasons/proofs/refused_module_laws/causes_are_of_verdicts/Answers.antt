use Rattle.cc_elaboration_reasons.proofs.TextRefusals.{causes_are_of_verdicts}
use Rattle.cc_elaboration_reasons.proofs.refused_module_laws.causes_are_of_verdicts.Goals as goal

pub returns : goal.returns
returns c = causes_are_of_verdicts
