use Rattle.cc_certificate_laws.proofs.WholeCertificates.{written_are_certificates, written_are_read_back}
use Rattle.cc_certificate_laws.proofs.certificate_laws.written_texts_are_certificates.Goals as goal

pub returns : goal.returns
returns c = record { written = written_are_certificates; read_back = written_are_read_back }
