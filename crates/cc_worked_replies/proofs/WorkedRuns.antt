-- Replies to runs, by computation.
use Rattle.std.proofs.Common.{ℕ, codes, true, false, List, [], ◌∷◌, refl, if◌then◌else◌}
use Rattle.std.specs.Str.{bytes_eq}
use Rattle.cc_base.specs.declared.device.DeviceDecl.{DeviceDecl}
use Rattle.cc_graph.specs.Graph.{ImportMap}
use Rattle.cc_verdicts.specs.ModuleVerdicts.{Finding, ModuleVerdict}
use Rattle.cc_verdicts.specs.PresentTexts.{Texts, finding_in}
use Rattle.cc_worked_replies.specs.RunExamples as example
use Rattle.cc_worked_replies.specs.TextReplies.{console, console_and_counter, three_devices, m, n, main}
use Rattle.cc_worked_replies.proofs.ComputedReplies.{verdicts_by, AreJudged, are_judged, run_replies, reply_computing}

-- the import graph of a module without imports
abbrev pub alone : ImportMap
alone = (m, []) ∷ []

-- the verdicts of modules without imports
abbrev pub verdicts_of : List DeviceDecl → Texts → List ℕ → ModuleVerdict
verdicts_of devices texts = verdicts_by devices texts (λ name. [])

pub printing_judged : AreJudged console example.printing (verdicts_of console example.printing) alone (m ∷ [])
unfolding reply_computing
printing_judged =
    are_judged console 12 example.printing (verdicts_of console example.printing) alone (m ∷ []) (tt, tt) (tt, tt) refl (refl, tt)
    (record { steps = refl; whole = refl })

pub printing_runs : example.PrintingRuns
unfolding reply_computing
printing_runs = record {
  with_enough_fuel = run_replies console example.printing (verdicts_of console example.printing) alone (m ∷ []) printing_judged m main 4
      (codes "run m.main" ∷ codes "  authority {out}" ∷ codes "  out print 5" ∷ codes "  done unit after 4 steps" ∷ []) false refl refl;
  with_less_fuel = run_replies console example.printing (verdicts_of console example.printing) alone (m ∷ []) printing_judged m main 3
      (codes "run m.main" ∷ codes "  authority {out}" ∷ codes "  out of fuel after 3 steps" ∷ []) true refl refl;
}

pub refused_runs : example.RefusedRuns
unfolding reply_computing
refused_runs = record {
  no_module = run_replies console example.printing (verdicts_of console example.printing) alone (m ∷ []) printing_judged n main 5
      (codes "run n.main refused E32" ∷ []) true refl refl;
  no_definition = run_replies console example.printing (verdicts_of console example.printing) alone (m ∷ []) printing_judged m (codes "none") 5
      (codes "run m.none refused E33" ∷ []) true refl refl;
  of_a_number = run_replies console example.printing (verdicts_of console example.printing) alone (m ∷ []) printing_judged m (codes "f") 5
      (codes "run m.f refused E35" ∷ []) true refl refl;
}

nested_judged : AreJudged console example.nested_boundaries (verdicts_of console example.nested_boundaries) alone (m ∷ [])
unfolding reply_computing
nested_judged =
    are_judged console 12 example.nested_boundaries (verdicts_of console example.nested_boundaries) alone (m ∷ []) (tt, tt) (tt, tt) refl (refl, tt)
    (record { steps = refl; whole = refl })

pub nested_boundaries_run : example.NestedBoundariesRun
unfolding reply_computing
nested_boundaries_run =
    run_replies console example.nested_boundaries (verdicts_of console example.nested_boundaries) alone (m ∷ []) nested_judged m main 9
    (codes "run m.main" ∷ codes "  authority {out}" ∷ codes "  enter 0" ∷ codes "  enter 1" ∷ codes "  exit 0" ∷ codes "  out print 4" ∷ codes "  done unit after 9 steps" ∷ []) false refl refl

type_functions_judged : AreJudged console example.type_functions (verdicts_of console example.type_functions) alone (m ∷ [])
unfolding reply_computing
type_functions_judged =
    are_judged console 12 example.type_functions (verdicts_of console example.type_functions) alone (m ∷ []) (tt, tt) (tt, tt) refl (refl, tt)
    (record { steps = refl; whole = refl })

pub type_functions_run : example.TypeFunctionsRun
unfolding reply_computing
type_functions_run =
    run_replies console example.type_functions (verdicts_of console example.type_functions) alone (m ∷ []) type_functions_judged m main 100
    (codes "run m.main" ∷ codes "  authority {out}" ∷ codes "  out print 3" ∷ codes "  done 3 after 16 steps" ∷ []) false refl refl

-- the import graph of the three modules, and its order
abbrev pub three_imports : ImportMap
three_imports = (codes "app", codes "logger" ∷ codes "logger" ∷ codes "counter" ∷ []) ∷ (codes "counter", []) ∷ (codes "logger", []) ∷ []

abbrev pub three_names : List (List ℕ)
three_names = codes "counter" ∷ codes "logger" ∷ codes "app" ∷ []

-- the verdicts of the two without imports
abbrev pub imported_verdicts : List ℕ → ModuleVerdict
imported_verdicts = verdicts_of console_and_counter example.three_modules

-- what is found for the imports of the third
abbrev pub three_findings : List ℕ → List Finding
three_findings name = if bytes_eq name (codes "app")
    then finding_in (imported_verdicts (codes "logger")) (codes "line")
    ∷ finding_in (imported_verdicts (codes "logger")) (codes "title")
    ∷ finding_in (imported_verdicts (codes "counter")) (codes "next")
    ∷ []
    else []

abbrev pub three_verdicts : List ℕ → ModuleVerdict
three_verdicts = verdicts_by console_and_counter example.three_modules three_findings

pub three_judged : AreJudged console_and_counter example.three_modules three_verdicts three_imports three_names
unfolding reply_computing
three_judged =
    are_judged console_and_counter 12 example.three_modules three_verdicts three_imports three_names
    ((refl, tt), (tt, tt)) ((refl, (refl, tt)), ((refl, tt), (tt, tt))) refl (refl, (refl, (refl, tt)))
    (record { steps = refl; whole = refl })

pub three_modules_run : example.ThreeModulesRun
unfolding reply_computing
three_modules_run =
    run_replies console_and_counter example.three_modules three_verdicts three_imports three_names three_judged (codes "app") main 1000
    (codes "run app.main" ∷ codes "  authority {out, hits}" ∷ codes "  out say start" ∷ codes "  hits tick 1" ∷ codes "  out print 10" ∷ codes "  hits tick 2" ∷ codes "  out print 21" ∷ codes "  done unit after 41 steps" ∷ []) false refl refl

pub imported_names_do_not_run : example.ImportedNamesDoNotRun
unfolding reply_computing
imported_names_do_not_run =
    run_replies console_and_counter example.three_modules three_verdicts three_imports three_names three_judged (codes "app") (codes "title") 1000
    (codes "run app.title refused E33" ∷ []) true refl refl

-- a text that is no module is not in the import graph
pub refused_judged : AreJudged console example.refused_module (verdicts_of console example.refused_module) [] []
unfolding reply_computing
refused_judged =
    are_judged console 12 example.refused_module (verdicts_of console example.refused_module) [] [] (tt, tt) (tt, tt) refl (refl, tt)
    (record { steps = refl; whole = refl })

pub refused_modules_do_not_run : example.RefusedModulesDoNotRun
unfolding reply_computing
refused_modules_do_not_run = record {
  with_the_name = run_replies console example.refused_module (verdicts_of console example.refused_module) [] [] refused_judged m main 5
      (codes "run m.main refused E34" ∷ []) true refl refl;
  without_the_name = run_replies console example.refused_module (verdicts_of console example.refused_module) [] [] refused_judged m (codes "none") 5
      (codes "run m.none refused E34" ∷ []) true refl refl;
}

-- the import graph of two modules without imports
abbrev both : ImportMap
both = (m, []) ∷ (n, []) ∷ []

same_names_judged : AreJudged console example.same_names (verdicts_of console example.same_names) both (m ∷ n ∷ [])
unfolding reply_computing
same_names_judged =
    are_judged console 12 example.same_names (verdicts_of console example.same_names) both (m ∷ n ∷ []) (tt, tt)
    ((refl, tt), (tt, tt)) refl (refl, (refl, tt)) (record { steps = refl; whole = refl })

pub same_names_run : example.SameNamesRun
unfolding reply_computing
same_names_run = record {
  of_the_first = run_replies console example.same_names (verdicts_of console example.same_names) both (m ∷ n ∷ []) same_names_judged m main 9
      (codes "run m.main" ∷ codes "  authority {out}" ∷ codes "  out print 1" ∷ codes "  done unit after 3 steps" ∷ []) false refl refl;
  of_the_second = run_replies console example.same_names (verdicts_of console example.same_names) both (m ∷ n ∷ []) same_names_judged n main 9
      (codes "run n.main" ∷ codes "  authority {out}" ∷ codes "  out print 2" ∷ codes "  done unit after 3 steps" ∷ []) false refl refl;
}

pub file_and_counter_judged : AreJudged three_devices example.file_and_counter (verdicts_of three_devices example.file_and_counter) alone (m ∷ [])
unfolding reply_computing
file_and_counter_judged =
    are_judged three_devices 12 example.file_and_counter (verdicts_of three_devices example.file_and_counter) alone (m ∷ [])
    ((refl, (refl, tt)), ((refl, tt), (tt, tt))) (tt, tt) refl (refl, tt) (record { steps = refl; whole = refl })

pub file_and_counter_run : example.FileAndCounterRun
unfolding reply_computing
file_and_counter_run =
    run_replies three_devices example.file_and_counter (verdicts_of three_devices example.file_and_counter) alone (m ∷ []) file_and_counter_judged m main 100
    (codes "run m.main" ∷ codes "  authority {hits, data}" ∷ codes "  data read 3" ∷ codes "  data read 5" ∷ codes "  data read 0" ∷ codes "  data write 3" ∷ codes "  data read 3" ∷ codes "  hits tick 1" ∷ codes "  done 1 after 17 steps" ∷ []) false refl refl

pub values_judged : AreJudged console example.values (verdicts_of console example.values) alone (m ∷ [])
unfolding reply_computing
values_judged =
    are_judged console 12 example.values (verdicts_of console example.values) alone (m ∷ []) (tt, tt) (tt, tt) refl (refl, tt)
    (record { steps = refl; whole = refl })

pub values_are_shown : example.ValuesAreShown
unfolding reply_computing
values_are_shown = record {
  number = run_replies console example.values (verdicts_of console example.values) alone (m ∷ []) values_judged m (codes "number") 9
      (codes "run m.number" ∷ codes "  authority {}" ∷ codes "  done -7 after 4 steps" ∷ []) false refl refl;
  truth = run_replies console example.values (verdicts_of console example.values) alone (m ∷ []) values_judged m (codes "less") 9
      (codes "run m.less" ∷ codes "  authority {}" ∷ codes "  done true after 4 steps" ∷ []) false refl refl;
  text = run_replies console example.values (verdicts_of console example.values) alone (m ∷ []) values_judged m (codes "word") 9
      (codes "run m.word" ∷ codes "  authority {}" ∷ codes "  done \"a b\" after 1 steps" ∷ []) false refl refl;
  function = run_replies console example.values (verdicts_of console example.values) alone (m ∷ []) values_judged m (codes "function") 9
      (codes "run m.function" ∷ codes "  authority {}" ∷ codes "  done <function> after 1 steps" ∷ []) false refl refl;
  type_function = run_replies console example.values (verdicts_of console example.values) alone (m ∷ []) values_judged m (codes "general") 9
      (codes "run m.general" ∷ codes "  authority {}" ∷ codes "  done <type function> after 1 steps" ∷ []) false refl refl;
  boxed_device = run_replies console example.values (verdicts_of console example.values) alone (m ∷ []) values_judged m (codes "boxed") 9
      (codes "run m.boxed" ∷ codes "  authority {}" ∷ codes "  done <box> after 1 steps" ∷ []) false refl refl;
  device = run_replies console example.values (verdicts_of console example.values) alone (m ∷ []) values_judged m (codes "device") 9
      (codes "run m.device" ∷ codes "  authority {out}" ∷ codes "  done <device out> after 1 steps" ∷ []) false refl refl;
  ended_boundary = run_replies console example.values (verdicts_of console example.values) alone (m ∷ []) values_judged m (codes "ended") 9
      (codes "run m.ended" ∷ codes "  authority {}" ∷ codes "  enter 0" ∷ codes "  leave 0" ∷ codes "  done 4 after 5 steps" ∷ []) false refl refl;
}

pub any_device_judged : AreJudged console_and_counter example.any_device (verdicts_of console_and_counter example.any_device) alone (m ∷ [])
unfolding reply_computing
any_device_judged =
    are_judged console_and_counter 12 example.any_device (verdicts_of console_and_counter example.any_device) alone (m ∷ []) ((refl, tt), (tt, tt)) (tt, tt) refl (refl, tt)
    (record { steps = refl; whole = refl })

pub cap_gives_each_device : example.CapGivesEachDevice
unfolding reply_computing
cap_gives_each_device =
    run_replies console_and_counter example.any_device (verdicts_of console_and_counter example.any_device) alone (m ∷ []) any_device_judged m main 5
    (codes "run m.main" ∷ codes "  authority {out, hits}" ∷ codes "  done unit after 1 steps" ∷ []) false refl refl
