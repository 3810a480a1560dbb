use Rattle.cc_reason_lines.proofs.TellableReasons.{first_reasons_can_be_told}
use Rattle.cc_reason_lines.proofs.line_laws.first_reasons_can_be_told.Goals as goal

pub returns : goal.returns
returns c = first_reasons_can_be_told
