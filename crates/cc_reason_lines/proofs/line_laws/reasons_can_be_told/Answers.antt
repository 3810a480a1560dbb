use Rattle.cc_reason_lines.proofs.TellableReasons.{reasons_can_be_told}
use Rattle.cc_reason_lines.proofs.line_laws.reasons_can_be_told.Goals as goal

pub returns : goal.returns
returns c = reasons_can_be_told
