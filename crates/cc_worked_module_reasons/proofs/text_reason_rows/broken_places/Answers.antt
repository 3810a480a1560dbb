use Rattle.cc_worked_module_reasons.proofs.WorkedTextReasons.{broken_places}
use Rattle.cc_worked_module_reasons.proofs.text_reason_rows.broken_places.Goals as goal

pub returns : goal.returns
returns c = broken_places
