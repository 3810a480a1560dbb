-- Worked workloads.
use Rattle.std.specs.Prelude.{◌≡◌, ℕ, List, [], ◌∷◌, length, take, drop, codes}
use Rattle.cc_base.specs.declared.device.Kind.TheVariants.{Console, Counter}
use Rattle.cc_job.specs.declared.job.Command.{Command}
use Rattle.cc_job.specs.declared.job.Command.TheVariants.{Put, Check, Run}
use Rattle.cc_job.specs.Jobs.{text}
use Rattle.cc_workload.specs.Workloads.{workload}

-- the whole job of one module
abbrev pub WorkloadOfOne : Type 0
WorkloadOfOne =
    workload 1
    ≡ record {
      devices =
          record { name = codes "out"; kind = Console } ∷
          record { name = codes "hits"; kind = Counter } ∷ [];
      commands =
          Put (codes "m1") (text (codes "def f1 = fun (x: Int) => out.print(x)" ∷ [])) ∷
          Put (codes "app") (text (codes "import m1.f1" ∷ codes "def main = fun (u: Unit) => f1(0)" ∷ [])) ∷
          Check ∷
          Put (codes "m1") (text (codes "def f1 = fun (x: Int) => val n = hits.tick(); out.print(x)" ∷ [])) ∷
          Check ∷
          Run (codes "app") (codes "main") 1000000 ∷ [];
    }

-- the commands of three modules, and of the most
abbrev pub CommandsOfThree : Type 0
CommandsOfThree = length (workload 3).commands ≡ 8

abbrev pub CommandsOfMost : Type 0
CommandsOfMost = length (workload 200).commands ≡ 205

-- the command at a place, in a list with this one alone
abbrev pub command_at : ℕ → ℕ → List Command
command_at n place = take 1 (drop place (workload n).commands)

-- the first module of three, and the last
abbrev pub FirstOfThree : Type 0
FirstOfThree =
    command_at 3 0 ≡ Put (codes "m1") (text (codes "def f1 = fun (x: Int) => out.print(x)" ∷ [])) ∷ []

abbrev pub LastOfThree : Type 0
LastOfThree =
    command_at 3 2
    ≡ Put (codes "m3") (text (codes "import m2.f2" ∷ codes "def f3 = fun (x: Int) => f2(x + 3)" ∷ [])) ∷ []

-- the module that is run, behind three
abbrev pub EntryOfThree : Type 0
EntryOfThree =
    command_at 3 3
    ≡ Put (codes "app") (text (codes "import m3.f3" ∷ codes "def main = fun (u: Unit) => f3(0)" ∷ [])) ∷ []

-- the last of the most
abbrev pub LastOfMost : Type 0
LastOfMost =
    command_at 200 199
    ≡ Put (codes "m200") (text (codes "import m199.f199" ∷ codes "def f200 = fun (x: Int) => f199(x + 200)" ∷ [])) ∷ []
