use Rattle.cc_reasons.proofs.ToldReasons.{reasons_have_lines}
use Rattle.cc_reasons.proofs.line_laws.reasons_have_lines.Goals as goal

pub returns : goal.returns
returns c = reasons_have_lines
