use Rattle.cc_program.proofs.WorkedStatuses.{statuses_show_so}
use Rattle.cc_program.proofs.job_laws.statuses_show.Goals as goal

pub returns : goal.returns
returns c = statuses_show_so
