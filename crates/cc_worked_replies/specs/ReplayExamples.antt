-- Replies to replays, by example.
use Rattle.std.specs.Prelude.{ℕ, codes, Bool, true, false, List, [], ◌∷◌}
use Rattle.std.specs.List.{flat_map}
use Rattle.cc_base.specs.declared.device.DeviceDecl.{DeviceDecl}
use Rattle.cc_verdicts.specs.PresentTexts.{Texts}
use Rattle.cc_replies.specs.ReplyTexts.{line}
use Rattle.cc_replies.specs.Requests.{ReplayDefinition}
use Rattle.cc_worked_replies.specs.RunExamples.{printing, refused_module, three_modules, file_and_counter}
use Rattle.cc_worked_replies.specs.TextReplies.{RepliesWith, console, console_and_counter, three_devices, m, n, main, one_module}

-- the name of the definition below
abbrev pub one : List ℕ
one = codes "one"

-- a tick of a counter
abbrev pub ticking : Texts
ticking = one_module (codes "def one = fun (u: Unit) => hits.tick()" ∷ [])

-- the lines replayed with so much fuel have this reply
abbrev pub ReplayOf : List DeviceDecl → Texts → List ℕ → ℕ → List (List ℕ) → List (List ℕ) → Bool → Type 0
ReplayOf devices texts name fuel lines answer refused =
    RepliesWith devices texts (ReplayDefinition m name fuel (flat_map line lines)) answer refused

-- What is printed must stand in the lines, and the end by the fuel.
pub record PrintingReplays : Type 0 where
  pub with_enough_fuel : ReplayOf console printing main 4
      (codes "out print 5" ∷ codes "done unit after 4 steps" ∷ []) (codes "replay m.main" ∷ codes "  agrees" ∷ []) false
  pub with_less_fuel : ReplayOf console printing main 3
      (codes "out of fuel after 3 steps" ∷ []) (codes "replay m.main" ∷ codes "  agrees" ∷ []) false
  pub another_number : ReplayOf console printing main 4
      (codes "out print 6" ∷ codes "done unit after 4 steps" ∷ [])
      (codes "replay m.main" ∷ codes "  differs at line 1" ∷ []) true
  pub a_line_behind : ReplayOf console printing main 4
      (codes "out print 5" ∷ codes "done unit after 4 steps" ∷ codes "done unit after 4 steps" ∷ [])
      (codes "replay m.main" ∷ codes "  differs at line 3" ∷ []) true

-- What a device answers stands in the lines: the counter is not asked, which would answer 1.
pub record TicksReplay : Type 0 where
  pub agrees : ReplayOf console_and_counter ticking one 100
      (codes "hits tick 7" ∷ codes "done 7 after 2 steps" ∷ []) (codes "replay m.one" ∷ codes "  agrees" ∷ []) false
  pub another_end : ReplayOf console_and_counter ticking one 100
      (codes "hits tick 7" ∷ codes "done 8 after 2 steps" ∷ [])
      (codes "replay m.one" ∷ codes "  differs at line 2" ∷ []) true
  pub no_end : ReplayOf console_and_counter ticking one 100
      (codes "hits tick 7" ∷ []) (codes "replay m.one" ∷ codes "  differs at line 2" ∷ []) true
  pub no_line : ReplayOf console_and_counter ticking one 100 []
      (codes "replay m.one" ∷ codes "  differs at line 1" ∷ []) true

-- The lines of a run, without the one about its authority, agree.
pub record RunsReplay : Type 0 where
  pub of_three_modules : RepliesWith console_and_counter three_modules
      (ReplayDefinition (codes "app") main 1000 (flat_map line
      (codes "out say start" ∷ codes "hits tick 1" ∷ codes "out print 10" ∷ codes "hits tick 2" ∷ codes "out print 21"
      ∷ codes "done unit after 41 steps" ∷ [])))
      (codes "replay app.main" ∷ codes "  agrees" ∷ []) false
  pub of_a_file : ReplayOf three_devices file_and_counter main 100
      (codes "data read 3" ∷ codes "data read 5" ∷ codes "data read 0" ∷ codes "data write 3" ∷ codes "data read 3"
      ∷ codes "hits tick 1" ∷ codes "done 1 after 17 steps" ∷ [])
      (codes "replay m.main" ∷ codes "  agrees" ∷ []) false

-- What is not run is not replayed, for the same reason.
pub record RefusedReplays : Type 0 where
  pub no_module : RepliesWith console printing (ReplayDefinition n main 5 [])
      (codes "replay n.main refused E32" ∷ []) true
  pub no_definition : ReplayOf console printing (codes "none") 5 [] (codes "replay m.none refused E33" ∷ []) true
  pub of_a_number : ReplayOf console printing (codes "f") 5 [] (codes "replay m.f refused E35" ∷ []) true
  pub of_a_refused_module : ReplayOf console refused_module main 5 [] (codes "replay m.main refused E34" ∷ []) true
