-- What the job of a workload writes, for each number of modules: no reply tells of a refusal.
use Rattle.std.specs.Prelude.{ℕ, ◌≤◌, false, List}
use Rattle.std.specs.List.{flat_map}
use Rattle.cc_answers.specs.Requests.{requests_of}
use Rattle.cc_replies.specs.Outputs.{IsOutput}
use Rattle.cc_replies.specs.ReplyTexts.{line}
use Rattle.cc_replies.specs.Requests.{no_module}
use Rattle.cc_workload.specs.Workloads.{workload}
use Rattle.cc_workload_outputs.specs.WorkloadLines.{workload_lines}

-- the whole output
abbrev pub workload_output : ℕ → List ℕ
workload_output n = flat_map line (workload_lines n)

-- A workload of 1 to 200 modules writes this, and none of its replies tells of a refusal.
abbrev pub WorkloadsEndClean : Type 0
WorkloadsEndClean =
    (n : ℕ) → 1 ≤ n → n ≤ 200
    → IsOutput (workload n).devices no_module (requests_of (workload n)) (workload_output n) false
