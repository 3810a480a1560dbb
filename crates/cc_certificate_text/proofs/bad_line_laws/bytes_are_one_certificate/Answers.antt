use Rattle.cc_certificate_text.proofs.Certified.{one_certificate}
use Rattle.cc_certificate_text.proofs.bad_line_laws.bytes_are_one_certificate.Goals as goal

pub returns : goal.returns
returns c = one_certificate
