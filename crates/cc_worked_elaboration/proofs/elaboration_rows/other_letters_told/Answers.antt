use Rattle.cc_worked_elaboration.proofs.WorkedElaborations.{other_letters_told}
use Rattle.cc_worked_elaboration.proofs.elaboration_rows.other_letters_told.Goals as goal

pub returns : goal.returns
returns c = other_letters_told
