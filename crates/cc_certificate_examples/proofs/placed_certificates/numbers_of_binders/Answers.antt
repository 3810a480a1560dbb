use Rattle.cc_certificate_examples.proofs.WorkedPlaces as worked
use Rattle.cc_certificate_examples.proofs.placed_certificates.numbers_of_binders.Goals as goal

pub returns : goal.returns
returns c = worked.numbers_of_binders
