use Rattle.std.proofs.Common.{◌≡◌, ◌+◌, ◌-◌, ◌≤◌}
use Rattle.cc_workload.specs.Workloads.{chain}
use Rattle.cc_workload.proofs.workload.chain.Given as goal

abbrev pub invariant-loop-number : goal.invariant-loop-number
invariant-loop-number l =
    (2 ≤ l.number) × (l.number ≤ l.count + 1) × (l.commands.items ≡ chain (l.number - 1))
