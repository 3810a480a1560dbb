use Rattle.cc_certificate_reading.proofs.WorkedCertificates.{identity_certified, wrong_type}
use Rattle.cc_certificate_reading.proofs.reading_examples.worked_certificates.Goals as goal

pub returns : goal.returns
returns c = record { identity = identity_certified; wrong_type = wrong_type }
