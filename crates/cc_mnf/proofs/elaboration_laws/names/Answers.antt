use Rattle.cc_mnf.proofs.RefusedNames.{second_names_are_refused}
use Rattle.cc_mnf.proofs.SecondNames.{names_differ}
use Rattle.cc_mnf.proofs.elaboration_laws.names.Goals as goal

pub returns : goal.returns
returns c = record { differ = names_differ; second = second_names_are_refused }
