-- Replies to tasks that run interleaved, by computation.
use Rattle.std.proofs.Common.{codes, true, false, [], ◌∷◌, refl}
use Rattle.cc_worked_replies.specs.RunExamples.{printing, three_modules}
use Rattle.cc_worked_replies.specs.TaskExamples as example
use Rattle.cc_worked_replies.specs.TextReplies.{console, console_and_counter, m, n, main}
use Rattle.cc_worked_replies.proofs.ComputedReplies.{AreJudged, are_judged, tasks_reply, reply_computing}
use Rattle.cc_worked_replies.proofs.WorkedRuns.{alone, verdicts_of, printing_judged, three_imports, three_names, three_verdicts, three_judged}

leaving_judged : AreJudged console example.leaving (verdicts_of console example.leaving) alone (m ∷ [])
unfolding reply_computing
leaving_judged =
    are_judged console 12 example.leaving (verdicts_of console example.leaving) alone (m ∷ []) (tt, tt) (tt, tt) refl (refl, tt)
    (record { steps = refl; whole = refl })

pub tasks_run : example.TasksRun
unfolding reply_computing
tasks_run = record {
  to_their_ends = tasks_reply console example.leaving (verdicts_of console example.leaving) alone (m ∷ []) leaving_judged 100 (0 ∷ 1 ∷ []) ((m, example.b) ∷ (m, example.b) ∷ [])
      (codes "tasks" ∷ codes "  0 authority {out}" ∷ codes "  1 authority {out}" ∷ codes "  0 enter 0" ∷ codes "  1 enter 0" ∷ codes "  0 exit 0" ∷ codes "  1 exit 0" ∷ codes "  0 out print 4" ∷ codes "  1 out print 4" ∷ codes "  0 done unit after 7 steps" ∷ codes "  1 done unit after 7 steps" ∷ []) false refl refl;
  one_to_its_end = tasks_reply console example.leaving (verdicts_of console example.leaving) alone (m ∷ []) leaving_judged 13 (0 ∷ 1 ∷ []) ((m, example.b) ∷ (m, example.b) ∷ [])
      (codes "tasks" ∷ codes "  0 authority {out}" ∷ codes "  1 authority {out}" ∷ codes "  0 enter 0" ∷ codes "  1 enter 0" ∷ codes "  0 exit 0" ∷ codes "  1 exit 0" ∷ codes "  0 out print 4" ∷ codes "  0 done unit after 7 steps" ∷ codes "  1 out of fuel after 6 steps" ∷ []) true refl refl;
}

pub tasks_of_different_modules_run : example.TasksOfDifferentModulesRun
unfolding reply_computing
tasks_of_different_modules_run =
    tasks_reply console_and_counter three_modules three_verdicts three_imports three_names three_judged 20 (1 ∷ 0 ∷ []) ((codes "app", main) ∷ (codes "counter", codes "next") ∷ [])
    (codes "tasks" ∷ codes "  0 authority {out, hits}" ∷ codes "  1 authority {hits}" ∷ codes "  1 hits tick 1" ∷ codes "  0 out say start" ∷ codes "  0 hits tick 2" ∷ codes "  0 out of fuel after 18 steps" ∷ codes "  1 done 1 after 2 steps" ∷ []) true refl refl

pub refused_tasks : example.RefusedTasks
unfolding reply_computing
refused_tasks = record {
  of_a_number = tasks_reply console printing (verdicts_of console printing) alone (m ∷ []) printing_judged 5 (0 ∷ 1 ∷ []) ((m, main) ∷ (m, codes "f") ∷ [])
      (codes "tasks refused E35 m.f" ∷ []) true refl refl;
  two_of_three = tasks_reply console printing (verdicts_of console printing) alone (m ∷ []) printing_judged 5 (0 ∷ 1 ∷ 2 ∷ []) ((m, main) ∷ (m, codes "none") ∷ (n, main) ∷ [])
      (codes "tasks refused E33 m.none" ∷ []) true refl refl;
}
