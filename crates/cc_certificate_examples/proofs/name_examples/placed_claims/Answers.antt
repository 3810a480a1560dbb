use Rattle.cc_certificate_examples.proofs.WorkedNames as worked
use Rattle.cc_certificate_examples.proofs.name_examples.placed_claims.Goals as goal

pub returns : goal.returns
returns c = worked.placed_claims
