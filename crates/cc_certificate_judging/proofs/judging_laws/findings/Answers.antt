use Rattle.cc_certificate_judging.proofs.BytesFound.{something_is_found, one_thing_is_found}
use Rattle.cc_certificate_judging.proofs.judging_laws.findings.Goals as goal

pub returns : goal.returns
returns c = record { some = something_is_found; one = one_thing_is_found }
