use Rattle.cc_certificate_judging.proofs.JudgedTypes.{claims_of_another_kind_fit_no_place}
use Rattle.cc_certificate_judging.proofs.judging_laws.claims_of_another_kind.Goals as goal

pub returns : goal.returns
returns c = claims_of_another_kind_fit_no_place
