use Rattle.cc_reasons.proofs.ExplainedOutcomes.{explained_is_inference}
use Rattle.cc_reasons.proofs.cause_laws.explained_inference_is_inference.Goals as goal

pub returns : goal.returns
returns c = explained_is_inference
