use Rattle.cc_worked_reasons.proofs.WorkedDefinitions.{heads_told}
use Rattle.cc_worked_reasons.proofs.definition_rows.heads_told.Goals as goal

pub returns : goal.returns
returns c = heads_told
