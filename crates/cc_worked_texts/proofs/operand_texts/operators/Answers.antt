use Rattle.cc_worked_texts.proofs.WorkedOperandTexts as worked
use Rattle.cc_worked_texts.proofs.operand_texts.operators.Goals as goal

pub returns : goal.returns
returns c = worked.operators
