use Rattle.cc_program.proofs.WorkedStatuses.{jobs_have_so_many}
use Rattle.cc_program.proofs.job_laws.jobs_have_so_many_bytes.Goals as goal

pub returns : goal.returns
returns c = jobs_have_so_many
