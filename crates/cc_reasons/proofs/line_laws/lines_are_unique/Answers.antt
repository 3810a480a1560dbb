use Rattle.cc_reasons.proofs.OneTelling.{lines_are_unique}
use Rattle.cc_reasons.proofs.line_laws.lines_are_unique.Goals as goal

pub returns : goal.returns
returns c = lines_are_unique
