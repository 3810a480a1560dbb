use Rattle.cc_worked_elaboration.proofs.WorkedElaborations.{unknown_names_told}
use Rattle.cc_worked_elaboration.proofs.elaboration_rows.unknown_names_told.Goals as goal

pub returns : goal.returns
returns c = unknown_names_told
