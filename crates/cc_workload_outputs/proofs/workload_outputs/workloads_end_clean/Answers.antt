use Rattle.cc_workload_outputs.proofs.EndedWorkloads as ended
use Rattle.cc_workload_outputs.proofs.workload_outputs.workloads_end_clean.Goals as goal

pub returns : goal.returns
returns c = record { clean = ended.workloads_end_clean }
