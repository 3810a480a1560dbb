use Rattle.cc_certificate_examples.proofs.WorkedCanonical as worked
use Rattle.cc_certificate_examples.proofs.canonical_examples.canonical_definitions.Goals as goal

pub returns : goal.returns
returns c = worked.canonical_definitions
