use Rattle.cc_worked_module_reasons.proofs.WorkedImportReasons.{told_imports}
use Rattle.cc_worked_module_reasons.proofs.import_reason_rows.told_imports.Goals as goal

pub returns : goal.returns
returns c = told_imports
