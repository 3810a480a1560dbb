use Rattle.cc_program.proofs.Exact.{job_is_answered}
use Rattle.cc_program.proofs.job_laws.a_job_is_answered.Goals as goal

pub returns : goal.returns
returns c = job_is_answered
