use Rattle.cc_certificate_examples.proofs.WorkedPlaces as worked
use Rattle.cc_certificate_examples.proofs.placed_certificates.names_on_both_sides.Goals as goal

pub returns : goal.returns
returns c = worked.names_on_both_sides
