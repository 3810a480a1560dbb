use Rattle.cc_certificate_text.proofs.Certified.{certificate_or_bad_line}
use Rattle.cc_certificate_text.proofs.bad_line_laws.bytes_are_a_certificate_or_have_a_bad_line.Goals as goal

pub returns : goal.returns
returns c = certificate_or_bad_line
