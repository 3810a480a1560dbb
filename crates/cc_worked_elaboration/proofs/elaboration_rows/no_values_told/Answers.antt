use Rattle.cc_worked_elaboration.proofs.WorkedElaborations.{no_values_told}
use Rattle.cc_worked_elaboration.proofs.elaboration_rows.no_values_told.Goals as goal

pub returns : goal.returns
returns c = no_values_told
