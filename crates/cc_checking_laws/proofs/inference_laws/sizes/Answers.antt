use Rattle.cc_checking_laws.proofs.InferredSizes.{not_too_large}
use Rattle.cc_checking_laws.proofs.inference_laws.sizes.Goals as goal

pub returns : goal.returns
returns c = not_too_large
