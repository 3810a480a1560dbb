-- Replies to replays, by computation.
use Rattle.std.proofs.Common.{codes, true, false, [], ◌∷◌, refl}
use Rattle.std.specs.List.{flat_map}
use Rattle.cc_replies.specs.ReplyTexts.{line}
use Rattle.cc_worked_replies.specs.ReplayExamples as example
use Rattle.cc_worked_replies.specs.RunExamples as runs
use Rattle.cc_worked_replies.specs.TextReplies.{console, console_and_counter, three_devices, m, n, main}
use Rattle.cc_worked_replies.proofs.ComputedReplies.{AreJudged, are_judged, replay_replies, reply_computing}
use Rattle.cc_worked_replies.proofs.WorkedRuns.{alone, verdicts_of, printing_judged, three_imports, three_names, three_verdicts, three_judged, refused_judged, file_and_counter_judged}

ticking_judged : AreJudged console_and_counter example.ticking (verdicts_of console_and_counter example.ticking) alone (m ∷ [])
unfolding reply_computing
ticking_judged =
    are_judged console_and_counter 12 example.ticking (verdicts_of console_and_counter example.ticking) alone (m ∷ []) ((refl, tt), (tt, tt)) (tt, tt) refl (refl, tt)
    (record { steps = refl; whole = refl })

pub printing_replays : example.PrintingReplays
unfolding reply_computing
printing_replays = record {
  with_enough_fuel = replay_replies console runs.printing (verdicts_of console runs.printing) alone (m ∷ []) printing_judged m main 4 (flat_map line (codes "out print 5" ∷ codes "done unit after 4 steps" ∷ []))
      (codes "replay m.main" ∷ codes "  agrees" ∷ []) false refl refl;
  with_less_fuel = replay_replies console runs.printing (verdicts_of console runs.printing) alone (m ∷ []) printing_judged m main 3 (flat_map line (codes "out of fuel after 3 steps" ∷ []))
      (codes "replay m.main" ∷ codes "  agrees" ∷ []) false refl refl;
  another_number = replay_replies console runs.printing (verdicts_of console runs.printing) alone (m ∷ []) printing_judged m main 4 (flat_map line (codes "out print 6" ∷ codes "done unit after 4 steps" ∷ []))
      (codes "replay m.main" ∷ codes "  differs at line 1" ∷ []) true refl refl;
  a_line_behind = replay_replies console runs.printing (verdicts_of console runs.printing) alone (m ∷ []) printing_judged m main 4 (flat_map line (codes "out print 5" ∷ codes "done unit after 4 steps" ∷ codes "done unit after 4 steps" ∷ []))
      (codes "replay m.main" ∷ codes "  differs at line 3" ∷ []) true refl refl;
}

pub ticks_replay : example.TicksReplay
unfolding reply_computing
ticks_replay = record {
  agrees = replay_replies console_and_counter example.ticking (verdicts_of console_and_counter example.ticking) alone (m ∷ []) ticking_judged m example.one 100 (flat_map line (codes "hits tick 7" ∷ codes "done 7 after 2 steps" ∷ []))
      (codes "replay m.one" ∷ codes "  agrees" ∷ []) false refl refl;
  another_end = replay_replies console_and_counter example.ticking (verdicts_of console_and_counter example.ticking) alone (m ∷ []) ticking_judged m example.one 100 (flat_map line (codes "hits tick 7" ∷ codes "done 8 after 2 steps" ∷ []))
      (codes "replay m.one" ∷ codes "  differs at line 2" ∷ []) true refl refl;
  no_end = replay_replies console_and_counter example.ticking (verdicts_of console_and_counter example.ticking) alone (m ∷ []) ticking_judged m example.one 100 (flat_map line (codes "hits tick 7" ∷ []))
      (codes "replay m.one" ∷ codes "  differs at line 2" ∷ []) true refl refl;
  no_line = replay_replies console_and_counter example.ticking (verdicts_of console_and_counter example.ticking) alone (m ∷ []) ticking_judged m example.one 100 (flat_map line [])
      (codes "replay m.one" ∷ codes "  differs at line 1" ∷ []) true refl refl;
}

pub runs_replay : example.RunsReplay
unfolding reply_computing
runs_replay = record {
  of_three_modules = replay_replies console_and_counter runs.three_modules three_verdicts three_imports three_names three_judged (codes "app") main 1000 (flat_map line (codes "out say start" ∷ codes "hits tick 1" ∷ codes "out print 10" ∷ codes "hits tick 2" ∷ codes "out print 21" ∷ codes "done unit after 41 steps" ∷ []))
      (codes "replay app.main" ∷ codes "  agrees" ∷ []) false refl refl;
  of_a_file = replay_replies three_devices runs.file_and_counter (verdicts_of three_devices runs.file_and_counter) alone (m ∷ []) file_and_counter_judged m main 100 (flat_map line (codes "data read 3" ∷ codes "data read 5" ∷ codes "data read 0" ∷ codes "data write 3" ∷ codes "data read 3" ∷ codes "hits tick 1" ∷ codes "done 1 after 17 steps" ∷ []))
      (codes "replay m.main" ∷ codes "  agrees" ∷ []) false refl refl;
}

pub refused_replays : example.RefusedReplays
unfolding reply_computing
refused_replays = record {
  no_module = replay_replies console runs.printing (verdicts_of console runs.printing) alone (m ∷ []) printing_judged n main 5 []
      (codes "replay n.main refused E32" ∷ []) true refl refl;
  no_definition = replay_replies console runs.printing (verdicts_of console runs.printing) alone (m ∷ []) printing_judged m (codes "none") 5 (flat_map line [])
      (codes "replay m.none refused E33" ∷ []) true refl refl;
  of_a_number = replay_replies console runs.printing (verdicts_of console runs.printing) alone (m ∷ []) printing_judged m (codes "f") 5 (flat_map line [])
      (codes "replay m.f refused E35" ∷ []) true refl refl;
  of_a_refused_module = replay_replies console runs.refused_module (verdicts_of console runs.refused_module) [] [] refused_judged m main 5 (flat_map line [])
      (codes "replay m.main refused E34" ∷ []) true refl refl;
}
