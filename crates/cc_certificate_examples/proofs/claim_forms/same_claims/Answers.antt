use Rattle.cc_certificate_examples.proofs.WorkedClaimForms as worked
use Rattle.cc_certificate_examples.proofs.claim_forms.same_claims.Goals as goal

pub returns : goal.returns
returns c = worked.same_claims
