-- The lines that the job of a workload writes, for each number of modules.
use Rattle.std.specs.Prelude.{ℕ, ◌+◌, ◌*◌, ◌-◌, List, [], ◌∷◌, ◌++◌, map, codes}
use Rattle.std.specs.Fmt.{decimal}
use Rattle.std.specs.List.{range_with_len, sum}
use Rattle.cc_workload.specs.Workloads.{module_name}
use Rattle.cc_workload_outputs.specs.PresentNames.{names_in_order}

-- the line of a put that is carried out
abbrev pub put_line : List ℕ → List ℕ
put_line name = codes "put " ++ name

-- the line of a module that is accepted
abbrev pub ok_line : List ℕ → List ℕ
ok_line name = codes "  " ++ name ++ codes " ok"

-- the lines of a check that accepts each module
abbrev pub check_lines : ℕ → List (List ℕ)
check_lines n = codes "check" ∷ map ok_line (names_in_order n)

-- what the modules behind the first add on the way: their numbers
abbrev pub added : ℕ → ℕ
added n = sum (range_with_len 2 (n - 1))

-- the lines of the run: the first module counts once, and prints the sum
abbrev pub run_lines : ℕ → List (List ℕ)
run_lines n =
    codes "run app.main" ∷ codes "  authority {out, hits}" ∷ codes "  hits tick 1"
    ∷ (codes "  out print " ++ decimal (added n))
    ∷ (codes "  done unit after " ++ decimal (5 * n + 2) ++ codes " steps") ∷ []

-- All lines of a workload of so many modules: the modules are put, at last the one that is run, and checked; the first
-- one is put again, and they are checked again; then comes the run.
abbrev pub workload_lines : ℕ → List (List ℕ)
workload_lines n =
    map (λ k. put_line (module_name k)) (range_with_len 1 n) ++ put_line (codes "app") ∷ check_lines n
    ++ put_line (module_name 1) ∷ check_lines n ++ run_lines n
