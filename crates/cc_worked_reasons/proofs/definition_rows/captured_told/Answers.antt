use Rattle.cc_worked_reasons.proofs.WorkedDefinitions.{captured_told}
use Rattle.cc_worked_reasons.proofs.definition_rows.captured_told.Goals as goal

pub returns : goal.returns
returns c = captured_told
