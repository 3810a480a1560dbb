use Rattle.cc_certificate_examples.proofs.WorkedTypings as worked
use Rattle.cc_certificate_examples.proofs.typing_certificates.repetitions.Goals as goal

pub returns : goal.returns
returns c = worked.repetitions
