use Rattle.cc_certificate_judging.proofs.WorkedCertificates.{let_without_a_type, let_with_a_type}
use Rattle.cc_certificate_judging.proofs.judging_laws.premises_of_lets.Goals as goal

pub returns : goal.returns
returns c = record { no_type = let_without_a_type; a_type = let_with_a_type }
