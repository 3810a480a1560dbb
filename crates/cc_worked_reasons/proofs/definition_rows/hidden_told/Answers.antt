use Rattle.cc_worked_reasons.proofs.WorkedDefinitions.{hidden_told}
use Rattle.cc_worked_reasons.proofs.definition_rows.hidden_told.Goals as goal

pub returns : goal.returns
returns c = hidden_told
