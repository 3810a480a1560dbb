use Rattle.cc_certificate_examples.proofs.WorkedTypings as worked
use Rattle.cc_certificate_examples.proofs.typing_certificates.choices.Goals as goal

pub returns : goal.returns
returns c = worked.choices
