use Rattle.cc_job.proofs.JobLaws.{one_bad_line}
use Rattle.cc_job.proofs.job_laws.bytes_have_one_bad_line.Goals as goal

pub returns : goal.returns
returns c = one_bad_line
