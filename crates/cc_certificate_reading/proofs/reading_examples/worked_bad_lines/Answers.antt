use Rattle.cc_certificate_reading.proofs.WorkedCertificates.{wrong_premise, no_node, two_roots, leading_zero, nothing_there}
use Rattle.cc_certificate_reading.proofs.reading_examples.worked_bad_lines.Goals as goal

pub returns : goal.returns
returns c = record { premise = wrong_premise; no_node = no_node; two_roots = two_roots; zero = leading_zero; nothing = nothing_there }
