use Rattle.cc_worked_texts.proofs.WorkedWrittenTexts as worked
use Rattle.cc_worked_texts.proofs.written_texts.types.Goals as goal

pub returns : goal.returns
returns c = worked.types
