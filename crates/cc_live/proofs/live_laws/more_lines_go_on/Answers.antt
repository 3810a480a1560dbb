use Rattle.cc_live.proofs.GoingOn.{more_lines_go_on}
use Rattle.cc_live.proofs.live_laws.more_lines_go_on.Goals as goal

pub returns : goal.returns
returns c = more_lines_go_on
