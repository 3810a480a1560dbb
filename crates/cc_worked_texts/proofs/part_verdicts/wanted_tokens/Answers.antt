use Rattle.cc_worked_texts.proofs.WorkedPartVerdicts as worked
use Rattle.cc_worked_texts.proofs.part_verdicts.wanted_tokens.Goals as goal

pub returns : goal.returns
returns c = worked.wanted_tokens
