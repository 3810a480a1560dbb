use Rattle.cc_worked_reasons.proofs.WorkedDefinitions.{chains_told}
use Rattle.cc_worked_reasons.proofs.definition_rows.chains_told.Goals as goal

pub returns : goal.returns
returns c = chains_told
