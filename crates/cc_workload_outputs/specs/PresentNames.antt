-- The names of the modules of a workload, in order.
use Rattle.std.specs.Prelude.{ℕ, zero, suc, List, [], codes}
use Rattle.std.specs.BTreeSet.{insert_key}
use Rattle.cc_base.specs.Names.{compare_names}
use Rattle.cc_workload.specs.Workloads.{module_name}

-- the names of so many modules of the chain, each in its place
abbrev pub chain_in_order : ℕ → List (List ℕ)
chain_in_order zero = []
chain_in_order (suc n) = insert_key compare_names (chain_in_order n) (module_name (suc n))

-- the names of all modules of a workload of so many: those of the chain, and that of the one that is run
abbrev pub names_in_order : ℕ → List (List ℕ)
names_in_order n = insert_key compare_names (chain_in_order n) (codes "app")
