use Rattle.cc_worked_texts.proofs.WorkedPartVerdicts as worked
use Rattle.cc_worked_texts.proofs.part_verdicts.any_expressions.Goals as goal

pub returns : goal.returns
returns c = worked.any_expressions
