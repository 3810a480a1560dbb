use Rattle.cc_certificate_laws.proofs.WholeTerms.{valid_are_whole}
use Rattle.cc_certificate_laws.proofs.DefinitionCertificates.{accepted_have_certificates, definitions_are_read_back}
use Rattle.cc_certificate_laws.proofs.certificate_laws.accepted_definitions_have_certificates.Goals as goal

pub returns : goal.returns
returns c = record { terms = valid_are_whole; certificates = accepted_have_certificates; read_back = definitions_are_read_back }
