use Rattle.cc_job.proofs.JobLaws.{one_job}
use Rattle.cc_job.proofs.job_laws.bytes_have_one_job.Goals as goal

pub returns : goal.returns
returns c = one_job
