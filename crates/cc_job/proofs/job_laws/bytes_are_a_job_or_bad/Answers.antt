use Rattle.cc_job.proofs.ReadJobs.{job_or_bad_line}
use Rattle.cc_job.proofs.job_laws.bytes_are_a_job_or_bad.Goals as goal

pub returns : goal.returns
returns c = job_or_bad_line
