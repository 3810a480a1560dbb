use Rattle.cc_elaboration_reasons.proofs.ToldContents.{repeated_names_are_given_twice}
use Rattle.cc_elaboration_reasons.proofs.elaboration_cause_laws.repeated_names_are_given_twice.Goals as goal

pub returns : goal.returns
returns c = repeated_names_are_given_twice
