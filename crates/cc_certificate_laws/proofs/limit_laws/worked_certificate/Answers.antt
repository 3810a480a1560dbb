use Rattle.cc_certificate_laws.proofs.WorkedModule.{a_number_is_certified}
use Rattle.cc_certificate_laws.proofs.limit_laws.worked_certificate.Goals as goal

pub returns : goal.returns
returns c = a_number_is_certified
