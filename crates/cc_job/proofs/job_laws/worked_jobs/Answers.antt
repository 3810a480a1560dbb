use Rattle.cc_job.proofs.WorkedJobs.{shortest_job}
use Rattle.cc_job.proofs.WorkedLimits.{long_job}
use Rattle.cc_job.proofs.WorkedPolicies.{certificate_job, policy_job}
use Rattle.cc_job.proofs.WorkedTraces.{trace_job}
use Rattle.cc_job.proofs.job_laws.worked_jobs.Goals as goal

pub returns-clause-shortest : goal.returns-clause-shortest
returns-clause-shortest c = shortest_job

pub returns-clause-long : goal.returns-clause-long
returns-clause-long c = long_job

pub returns-clause-certificate : goal.returns-clause-certificate
returns-clause-certificate c = certificate_job

pub returns-clause-policy : goal.returns-clause-policy
returns-clause-policy c = policy_job

pub returns-clause-trace : goal.returns-clause-trace
returns-clause-trace c = trace_job
