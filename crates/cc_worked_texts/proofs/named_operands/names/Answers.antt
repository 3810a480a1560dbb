use Rattle.cc_worked_texts.proofs.WorkedNamedOperands as worked
use Rattle.cc_worked_texts.proofs.named_operands.names.Goals as goal

pub returns : goal.returns
returns c = worked.names
