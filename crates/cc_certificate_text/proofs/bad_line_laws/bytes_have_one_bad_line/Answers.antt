use Rattle.cc_certificate_text.proofs.Certified.{one_bad_line}
use Rattle.cc_certificate_text.proofs.bad_line_laws.bytes_have_one_bad_line.Goals as goal

pub returns : goal.returns
returns c = one_bad_line
