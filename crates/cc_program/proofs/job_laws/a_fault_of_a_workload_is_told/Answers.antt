use Rattle.cc_program.proofs.WorkloadOutcomes.{workload_fault_is_told}
use Rattle.cc_program.proofs.job_laws.a_fault_of_a_workload_is_told.Goals as goal

pub returns : goal.returns
returns c = workload_fault_is_told
