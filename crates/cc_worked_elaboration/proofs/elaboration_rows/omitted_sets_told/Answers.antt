use Rattle.cc_worked_elaboration.proofs.WorkedElaborations.{omitted_sets_told}
use Rattle.cc_worked_elaboration.proofs.elaboration_rows.omitted_sets_told.Goals as goal

pub returns : goal.returns
returns c = omitted_sets_told
