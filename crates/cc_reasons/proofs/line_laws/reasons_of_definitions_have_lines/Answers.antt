use Rattle.cc_reasons.proofs.ToldModules.{reasons_of_definitions_have_lines}
use Rattle.cc_reasons.proofs.line_laws.reasons_of_definitions_have_lines.Goals as goal

pub returns : goal.returns
returns c = reasons_of_definitions_have_lines
