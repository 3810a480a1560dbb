use Rattle.cc_program.proofs.CallsInBytes as law
use Rattle.cc_program.proofs.call_laws.jobs_in_bytes.Goals as goal

pub returns-clause-jobs : goal.returns-clause-jobs
returns-clause-jobs c = law.jobs_in_bytes

pub returns-clause-bad : goal.returns-clause-bad
returns-clause-bad c = law.bad_jobs_in_bytes

pub returns-clause-too_long : goal.returns-clause-too_long
returns-clause-too_long c = law.too_long_jobs_in_bytes
