use Rattle.cc_worked_reasons.proofs.WorkedDefinitions.{matches_told}
use Rattle.cc_worked_reasons.proofs.definition_rows.matches_told.Goals as goal

pub returns : goal.returns
returns c = matches_told
