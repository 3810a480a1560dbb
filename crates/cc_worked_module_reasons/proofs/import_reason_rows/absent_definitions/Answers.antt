use Rattle.cc_worked_module_reasons.proofs.WorkedImportReasons.{absent_definitions}
use Rattle.cc_worked_module_reasons.proofs.import_reason_rows.absent_definitions.Goals as goal

pub returns : goal.returns
returns c = absent_definitions
