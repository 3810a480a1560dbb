use Rattle.cc_certificate_judging.proofs.WorkedCertificates.{local_of_its_kind, local_of_the_other_kind, local_without_a_binder, results_under_the_parameter}
use Rattle.cc_certificate_judging.proofs.judging_laws.local_names.Goals as goal

pub returns : goal.returns
returns c = record { own_kind = local_of_its_kind; other_kind = local_of_the_other_kind; no_binder = local_without_a_binder; parameter = results_under_the_parameter }
