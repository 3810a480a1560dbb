use Rattle.cc_certificate_examples.proofs.WorkedNames as worked
use Rattle.cc_certificate_examples.proofs.name_examples.names_in_claims.Goals as goal

pub returns : goal.returns
returns c = worked.names_in_claims
