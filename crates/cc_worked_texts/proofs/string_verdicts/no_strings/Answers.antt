use Rattle.cc_worked_texts.proofs.WorkedStringVerdicts as worked
use Rattle.cc_worked_texts.proofs.string_verdicts.no_strings.Goals as goal

pub returns : goal.returns
returns c = worked.no_strings
