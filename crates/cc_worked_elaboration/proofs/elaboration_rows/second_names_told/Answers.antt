use Rattle.cc_worked_elaboration.proofs.WorkedElaborations.{second_names_told}
use Rattle.cc_worked_elaboration.proofs.elaboration_rows.second_names_told.Goals as goal

pub returns : goal.returns
returns c = second_names_told
