use Rattle.cc_worked_reasons.proofs.WorkedDefinitions.{sizes_told}
use Rattle.cc_worked_reasons.proofs.definition_rows.sizes_told.Goals as goal

pub returns : goal.returns
returns c = sizes_told
