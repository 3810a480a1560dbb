use Rattle.cc_certificate_examples.proofs.WorkedPlaces as worked
use Rattle.cc_certificate_examples.proofs.placed_certificates.places_of_premises.Goals as goal

pub returns : goal.returns
returns c = worked.places_of_premises
