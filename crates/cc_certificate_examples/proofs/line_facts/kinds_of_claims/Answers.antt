use Rattle.cc_certificate_examples.proofs.WorkedLineFacts as worked
use Rattle.cc_certificate_examples.proofs.line_facts.kinds_of_claims.Goals as goal

pub returns : goal.returns
returns c = worked.kinds_of_claims
