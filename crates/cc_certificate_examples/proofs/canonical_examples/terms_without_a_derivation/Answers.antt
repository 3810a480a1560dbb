use Rattle.cc_certificate_examples.proofs.WorkedCanonical as worked
use Rattle.cc_certificate_examples.proofs.canonical_examples.terms_without_a_derivation.Goals as goal

pub returns : goal.returns
returns c = worked.terms_without_a_derivation
