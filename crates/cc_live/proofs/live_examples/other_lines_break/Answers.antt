use Rattle.cc_live.proofs.WorkedLives as worked
use Rattle.cc_live.proofs.live_examples.other_lines_break.Goals as goal

pub returns : goal.returns
returns c = worked.other_lines_break
