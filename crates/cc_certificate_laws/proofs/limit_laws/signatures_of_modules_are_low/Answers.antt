use Rattle.cc_certificate_laws.proofs.LowModules.{module_signatures_low, findings_low}
use Rattle.cc_certificate_laws.proofs.limit_laws.signatures_of_modules_are_low.Goals as goal

pub returns : goal.returns
returns c = record { signatures = module_signatures_low; findings = findings_low }
