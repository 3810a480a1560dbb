-- Workloads end without a refusal.
use Rattle.std.proofs.Common.{ℕ, ◌≤◌, List, arith}
use Rattle.cc_workload.specs.Workloads.{counting_module, calling_module, entry_module}
use Rattle.cc_workload_outputs.specs.WorkloadOutputs.{WorkloadsEndClean}
use Rattle.cc_workload_outputs.proofs.ComputedChains.{imports_are, printing_accepted, counting_accepted, texts_are_short}
use Rattle.cc_workload_outputs.proofs.CountedRuns.{counted_run}
use Rattle.cc_workload_outputs.proofs.WholeOutputs.{RunsAreAnswered, workload_writes}

-- where it is known what the run is answered
pub end_clean : RunsAreAnswered → WorkloadsEndClean
end_clean runs n some few = workload_writes imports_are texts_are_short printing_accepted counting_accepted runs n some few

runs_are_answered : RunsAreAnswered
runs_are_answered n some few texts chained verdicts are have =
    let told =
    counted_run n some few texts verdicts (counting_module, chained.of_first, counting_accepted.alone)
    (λ k more within. (calling_module k, chained.of_calling k more within, imports_are.of_calling k more (omega (arith, within, few))))
    (entry_module n, chained.of_entry, imports_are.of_entry n some few) have in
    (told.0, (verdicts, are, told.1), told.2, told.3)

pub workloads_end_clean : WorkloadsEndClean
workloads_end_clean = end_clean runs_are_answered
