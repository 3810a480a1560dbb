use Rattle.cc_program.proofs.Exact.{no_job_is_refused}
use Rattle.cc_program.proofs.job_laws.what_is_no_job_is_refused.Goals as goal

pub returns : goal.returns
returns c = no_job_is_refused
