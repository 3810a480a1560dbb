use Rattle.cc_module_reasons.proofs.WhyAnswered.{why_has_an_answer}
use Rattle.cc_module_reasons.proofs.why_laws.why_has_an_answer.Goals as goal

pub returns : goal.returns
returns c = why_has_an_answer
