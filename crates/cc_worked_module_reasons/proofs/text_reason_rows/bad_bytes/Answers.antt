use Rattle.cc_worked_module_reasons.proofs.WorkedTextReasons.{bad_bytes}
use Rattle.cc_worked_module_reasons.proofs.text_reason_rows.bad_bytes.Goals as goal

pub returns : goal.returns
returns c = bad_bytes
