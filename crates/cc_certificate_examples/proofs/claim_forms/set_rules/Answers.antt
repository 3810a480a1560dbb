use Rattle.cc_certificate_examples.proofs.WorkedClaimForms as worked
use Rattle.cc_certificate_examples.proofs.claim_forms.set_rules.Goals as goal

pub returns : goal.returns
returns c = worked.set_rules
