use Rattle.cc_worked_reasons.proofs.WorkedDefinitions.{unavoidable_told}
use Rattle.cc_worked_reasons.proofs.definition_rows.unavoidable_told.Goals as goal

pub returns : goal.returns
returns c = unavoidable_told
