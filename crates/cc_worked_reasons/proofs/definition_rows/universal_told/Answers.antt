use Rattle.cc_worked_reasons.proofs.WorkedDefinitions.{universal_told}
use Rattle.cc_worked_reasons.proofs.definition_rows.universal_told.Goals as goal

pub returns : goal.returns
returns c = universal_told
