use Rattle.cc_certificate_laws.proofs.FoundValid.{parts_back, found_valid, definitions_found_valid}
use Rattle.cc_certificate_laws.proofs.judged_certificates.what_is_read_back_is_valid.Goals as goal

pub returns : goal.returns
returns c = record { parts = parts_back; judged = found_valid; definitions = definitions_found_valid }
