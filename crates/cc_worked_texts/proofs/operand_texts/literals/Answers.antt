use Rattle.cc_worked_texts.proofs.WorkedOperandTexts as worked
use Rattle.cc_worked_texts.proofs.operand_texts.literals.Goals as goal

pub returns : goal.returns
returns c = worked.literals
