use Rattle.cc_certificate_judging.proofs.JudgedTypes.{judged_types_are_given, bad_nodes_are_not_valid}
use Rattle.cc_certificate_judging.proofs.judging_laws.judged_certificates.Goals as goal

pub returns : goal.returns
returns c = record { types = judged_types_are_given; bad = bad_nodes_are_not_valid }
