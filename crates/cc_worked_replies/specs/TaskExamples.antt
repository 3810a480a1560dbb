-- Replies to tasks that run interleaved, by example.
use Rattle.std.specs.Prelude.{ℕ, codes, true, false, List, [], ◌∷◌}
use Rattle.cc_verdicts.specs.PresentTexts.{Texts}
use Rattle.cc_replies.specs.Requests.{RunTasks}
use Rattle.cc_worked_replies.specs.RunExamples.{printing, three_modules}
use Rattle.cc_worked_replies.specs.TextReplies.{RepliesWith, console, console_and_counter, m, n, main, one_module}

-- the name of the definition below
abbrev pub b : List ℕ
b = codes "b"

-- an exit from a boundary
abbrev pub leaving : Texts
leaving =
    one_module
    (codes "def b = fun (u: Unit) => val r = boundary [Int] a => exit [Int] (a, 4); out.print(r)" ∷ [])

-- Two tasks of one definition, each of which counts its own boundaries.
pub record TasksRun : Type 0 where
  pub to_their_ends : RepliesWith console leaving (RunTasks 100 (0 ∷ 1 ∷ []) ((m, b) ∷ (m, b) ∷ []))
      (codes "tasks" ∷ codes "  0 authority {out}" ∷ codes "  1 authority {out}" ∷ codes "  0 enter 0"
      ∷ codes "  1 enter 0" ∷ codes "  0 exit 0" ∷ codes "  1 exit 0" ∷ codes "  0 out print 4" ∷ codes "  1 out print 4"
      ∷ codes "  0 done unit after 7 steps" ∷ codes "  1 done unit after 7 steps" ∷ [])
      false
  -- where the fuel of all is spent before the last step of one of them
  pub one_to_its_end : RepliesWith console leaving (RunTasks 13 (0 ∷ 1 ∷ []) ((m, b) ∷ (m, b) ∷ []))
      (codes "tasks" ∷ codes "  0 authority {out}" ∷ codes "  1 authority {out}" ∷ codes "  0 enter 0"
      ∷ codes "  1 enter 0" ∷ codes "  0 exit 0" ∷ codes "  1 exit 0" ∷ codes "  0 out print 4"
      ∷ codes "  0 done unit after 7 steps" ∷ codes "  1 out of fuel after 6 steps" ∷ [])
      true

-- Tasks of different modules on the same counter, in the order of a schedule that is not that of the tasks: each has its
-- own modules, and the authority of its own definition.
abbrev pub TasksOfDifferentModulesRun : Type 0
TasksOfDifferentModulesRun =
    RepliesWith console_and_counter three_modules
    (RunTasks 20 (1 ∷ 0 ∷ []) ((codes "app", main) ∷ (codes "counter", codes "next") ∷ []))
    (codes "tasks" ∷ codes "  0 authority {out, hits}" ∷ codes "  1 authority {hits}" ∷ codes "  1 hits tick 1"
    ∷ codes "  0 out say start" ∷ codes "  0 hits tick 2" ∷ codes "  0 out of fuel after 18 steps"
    ∷ codes "  1 done 1 after 2 steps" ∷ []) true

-- The first task that is not run decides.
pub record RefusedTasks : Type 0 where
  pub of_a_number : RepliesWith console printing (RunTasks 5 (0 ∷ 1 ∷ []) ((m, main) ∷ (m, codes "f") ∷ []))
      (codes "tasks refused E35 m.f" ∷ []) true
  pub two_of_three : RepliesWith console printing
      (RunTasks 5 (0 ∷ 1 ∷ 2 ∷ []) ((m, main) ∷ (m, codes "none") ∷ (n, main) ∷ []))
      (codes "tasks refused E33 m.none" ∷ []) true
