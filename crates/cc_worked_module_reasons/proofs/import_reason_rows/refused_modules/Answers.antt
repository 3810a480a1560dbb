use Rattle.cc_worked_module_reasons.proofs.WorkedImportReasons.{refused_modules}
use Rattle.cc_worked_module_reasons.proofs.import_reason_rows.refused_modules.Goals as goal

pub returns : goal.returns
returns c = refused_modules
