use Rattle.cc_module_reasons.proofs.WhyAnswered.{why_says_the_verdict}
use Rattle.cc_module_reasons.proofs.why_laws.why_says_the_verdict.Goals as goal

pub returns : goal.returns
returns c = why_says_the_verdict
