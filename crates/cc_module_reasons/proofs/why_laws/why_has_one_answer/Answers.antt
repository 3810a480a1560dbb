use Rattle.cc_module_reasons.proofs.WhyAnswered.{why_has_one_answer}
use Rattle.cc_module_reasons.proofs.why_laws.why_has_one_answer.Goals as goal

pub returns : goal.returns
returns c = why_has_one_answer
