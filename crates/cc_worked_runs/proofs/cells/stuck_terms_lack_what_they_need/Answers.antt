use Rattle.cc_worked_runs.proofs.FittingSteps as worked
use Rattle.cc_worked_runs.proofs.cells.stuck_terms_lack_what_they_need.Goals as goal

pub returns : goal.returns
returns c = worked.stuck_terms_lack_what_they_need
