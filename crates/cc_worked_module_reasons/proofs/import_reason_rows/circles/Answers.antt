use Rattle.cc_worked_module_reasons.proofs.WorkedImportReasons.{circles}
use Rattle.cc_worked_module_reasons.proofs.import_reason_rows.circles.Goals as goal

pub returns : goal.returns
returns c = circles
