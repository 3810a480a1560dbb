-- The job of a workload: a chain of modules, each of which calls the one before it, is checked, is checked again after
-- its first module has changed, and is run.
use Rattle.std.specs.Prelude.{ℕ, ◌-◌, ◌≤◌, List, [], ◌∷◌, ◌++◌, map, codes}
use Rattle.std.specs.List.{range_with_len, AllByRecursion, IsDistinct}
use Rattle.std.specs.Str.{bytes_eq}
use Rattle.std.specs.Fmt.{decimal}
use Rattle.cc_base.specs.declared.device.Kind.TheVariants.{Console, Counter}
use Rattle.cc_base.specs.declared.device.DeviceDecl.{DeviceDecl}
use Rattle.cc_job.specs.declared.job.Command.{Command}
use Rattle.cc_job.specs.declared.job.Command.TheVariants.{Put, Check, Run}
use Rattle.cc_job.specs.declared.job.Job.{Job}
use Rattle.cc_job.specs.Jobs.{IsItem, items_of, text}

-- the module with this number in the chain: m1, m2 and so on
abbrev pub module_name : ℕ → List ℕ
module_name k = codes "m" ++ decimal k

-- its one definition: f1, f2 and so on
abbrev pub definition_name : ℕ → List ℕ
definition_name k = codes "f" ++ decimal k

-- the line that imports the definition of the module with this number
abbrev pub import_line : ℕ → List ℕ
import_line k = codes "import " ++ module_name k ++ codes "." ++ definition_name k

-- the first module prints
abbrev pub printing_module : List ℕ
printing_module = text (codes "def f1 = fun (x: Int) => out.print(x)" ∷ [])

-- and when it has changed it counts too
abbrev pub counting_module : List ℕ
counting_module = text (codes "def f1 = fun (x: Int) => val n = hits.tick(); out.print(x)" ∷ [])

-- a module behind the first calls the one before it, with its own number added
abbrev pub calling_module : ℕ → List ℕ
calling_module k =
    text (
    import_line (k - 1) ∷
    (codes "def " ++ definition_name k ++ codes " = fun (x: Int) => " ++ definition_name (k - 1) ++ codes "(x + "
    ++ decimal k ++ codes ")") ∷ [])

-- the module that is run calls the last one of the chain
abbrev pub entry_module : ℕ → List ℕ
entry_module n =
    text (import_line n ∷ (codes "def main = fun (u: Unit) => " ++ definition_name n ++ codes "(0)") ∷ [])

-- a console and a counter
abbrev pub workload_devices : List DeviceDecl
workload_devices =
    record { name = codes "out"; kind = Console } ∷
    record { name = codes "hits"; kind = Counter } ∷ []

-- the put of a module behind the first
abbrev pub link : ℕ → Command
link k = Put (module_name k) (calling_module k)

-- the puts of so many modules, from the first on: behind it stand those with the numbers from 2 on
abbrev pub chain : ℕ → List Command
chain n = Put (module_name 1) printing_module ∷ map link (range_with_len 2 (n - 1))

-- what is asked for once the chain of so many modules is there
abbrev pub requests : ℕ → List Command
requests n =
    Put (codes "app") (entry_module n) ∷ Check ∷ Put (module_name 1) counting_module ∷ Check ∷
    Run (codes "app") (codes "main") 1000000 ∷ []

-- the job of a workload of so many modules
abbrev pub workload : ℕ → Job
workload n = record { devices = workload_devices; commands = chain n ++ requests n }

-- the names of the devices differ
abbrev pub DevicesDiffer : Type 0
DevicesDiffer = IsDistinct bytes_eq (map (λ device. device.name) workload_devices)

-- each device and each command is one that a job may have
abbrev pub WorkloadItems : Type 0
WorkloadItems = (n : ℕ) → 1 ≤ n → n ≤ 200 → AllByRecursion IsItem (items_of (workload n))
