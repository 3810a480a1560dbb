use Rattle.cc_worked_texts.proofs.WorkedStringVerdicts as worked
use Rattle.cc_worked_texts.proofs.string_verdicts.lengths.Goals as goal

pub returns : goal.returns
returns c = worked.lengths
