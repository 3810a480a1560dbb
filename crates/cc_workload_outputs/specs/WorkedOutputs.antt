-- What workloads write, by example.
use Rattle.std.specs.Prelude.{◌≡◌, ℕ, List, [], ◌∷◌, ◌++◌, codes}
use Rattle.std.specs.List.{flat_map}
use Rattle.cc_job.specs.Jobs.{text}
use Rattle.cc_workload_outputs.specs.PresentNames.{names_in_order}
use Rattle.cc_workload_outputs.specs.WorkloadLines.{workload_lines, run_lines}

-- the whole outputs of one module and of two
abbrev pub OutputsOfOneAndTwo : Type 0
OutputsOfOneAndTwo =
    (text (workload_lines 1)
    ≡ codes "put m1\nput app\ncheck\n  app ok\n  m1 ok\nput m1\ncheck\n  app ok\n  m1 ok\n"
    ++ codes "run app.main\n  authority {out, hits}\n  hits tick 1\n  out print 0\n  done unit after 7 steps\n")
    × (text (workload_lines 2)
    ≡ codes "put m1\nput m2\nput app\ncheck\n  app ok\n  m1 ok\n  m2 ok\nput m1\ncheck\n  app ok\n  m1 ok\n  m2 ok\n"
    ++ codes "run app.main\n  authority {out, hits}\n  hits tick 1\n  out print 2\n  done unit after 12 steps\n")

-- names are in the order of their texts: those of ten modules
abbrev pub NamesOfTen : Type 0
NamesOfTen =
    names_in_order 10
    ≡ codes "app" ∷ codes "m1" ∷ codes "m10" ∷ codes "m2" ∷ codes "m3" ∷ codes "m4" ∷ codes "m5" ∷ codes "m6"
    ∷ codes "m7" ∷ codes "m8" ∷ codes "m9" ∷ []

-- the run of the most modules
abbrev pub RunOfMost : Type 0
RunOfMost =
    run_lines 200
    ≡ codes "run app.main" ∷ codes "  authority {out, hits}" ∷ codes "  hits tick 1" ∷ codes "  out print 20099"
    ∷ codes "  done unit after 1002 steps" ∷ []
