use Rattle.cc_worked_texts.proofs.WorkedWordVerdicts as worked
use Rattle.cc_worked_texts.proofs.word_verdicts.others.Goals as goal

pub returns : goal.returns
returns c = worked.others
