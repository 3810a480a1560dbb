use Rattle.cc_program.proofs.WorkloadOutcomes.{workload_is_summarized}
use Rattle.cc_program.proofs.job_laws.a_workload_is_summarized.Goals as goal

pub returns : goal.returns
returns c = workload_is_summarized
