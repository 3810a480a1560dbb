use Rattle.cc_certificate_examples.proofs.WorkedPlaces as worked
use Rattle.cc_certificate_examples.proofs.placed_certificates.kinds_of_names.Goals as goal

pub returns : goal.returns
returns c = worked.kinds_of_names
