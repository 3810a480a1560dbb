use Rattle.cc_certificate_text.proofs.Certified.{never_both}
use Rattle.cc_certificate_text.proofs.bad_line_laws.never_a_certificate_and_a_bad_line.Goals as goal

pub returns : goal.returns
returns c = never_both
