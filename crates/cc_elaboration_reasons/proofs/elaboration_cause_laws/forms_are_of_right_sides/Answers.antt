use Rattle.cc_elaboration_reasons.proofs.ToldContents.{forms_are_of_right_sides}
use Rattle.cc_elaboration_reasons.proofs.elaboration_cause_laws.forms_are_of_right_sides.Goals as goal

pub returns : goal.returns
returns c = forms_are_of_right_sides
