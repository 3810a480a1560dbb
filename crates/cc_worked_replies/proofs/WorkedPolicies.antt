-- Replies to audits and guards, by computation.
use Rattle.std.proofs.Common.{codes, true, false, [], ◌∷◌, refl}
use Rattle.cc_worked_replies.specs.PolicyExamples as example
use Rattle.cc_worked_replies.specs.RunExamples as runs
use Rattle.cc_worked_replies.specs.TextReplies.{console, console_and_counter, m, n, main}
use Rattle.cc_worked_replies.proofs.ComputedReplies.{audit_replies, guard_replies, reply_computing}
use Rattle.cc_worked_replies.proofs.WorkedRuns.{alone, verdicts_of, printing_judged, three_imports, three_names, three_verdicts, three_judged, refused_judged, values_judged}

pub policies_decide : example.PoliciesDecide
unfolding reply_computing
policies_decide = record {
  audited = audit_replies console_and_counter runs.three_modules three_verdicts three_imports three_names three_judged example.console_alone example.app main
      (codes "audit app.main" ∷ codes "  out allow 1" ∷ codes "  hits deny 2" ∷ []) false refl refl;
  refused = guard_replies console_and_counter runs.three_modules three_verdicts three_imports three_names three_judged example.console_alone example.app main 1000
      (codes "guard app.main refused E37" ∷ []) true refl refl;
  audited_between = audit_replies console_and_counter runs.three_modules three_verdicts three_imports three_names three_judged example.all_but_the_counter example.app main
      (codes "audit app.main" ∷ codes "  out allow 1" ∷ codes "  hits deny 2" ∷ []) false refl refl;
  refused_between = guard_replies console_and_counter runs.three_modules three_verdicts three_imports three_names three_judged example.all_but_the_counter example.app main 1000
      (codes "guard app.main refused E37" ∷ []) true refl refl;
  audited_without = audit_replies console_and_counter runs.three_modules three_verdicts three_imports three_names three_judged [] example.app main
      (codes "audit app.main" ∷ codes "  out deny none" ∷ codes "  hits deny none" ∷ []) false refl refl;
  refused_without = guard_replies console_and_counter runs.three_modules three_verdicts three_imports three_names three_judged [] example.app main 1000
      (codes "guard app.main refused E37" ∷ []) true refl refl;
  audited_for_others = audit_replies console_and_counter runs.three_modules three_verdicts three_imports three_names three_judged example.other_modules example.app main
      (codes "audit app.main" ∷ codes "  out deny none" ∷ codes "  hits deny none" ∷ []) false refl refl;
  refused_for_others = guard_replies console_and_counter runs.three_modules three_verdicts three_imports three_names three_judged example.other_modules example.app main 1000
      (codes "guard app.main refused E37" ∷ []) true refl refl;
  audited_with_all = audit_replies console_and_counter runs.three_modules three_verdicts three_imports three_names three_judged example.everything example.app main
      (codes "audit app.main" ∷ codes "  out allow 1" ∷ codes "  hits allow 1" ∷ []) false refl refl;
  runs_with_all = guard_replies console_and_counter runs.three_modules three_verdicts three_imports three_names three_judged example.everything example.app main 1000
      (codes "guard app.main" ∷ codes "  authority {out, hits}" ∷ codes "  out say start" ∷ codes "  hits tick 1" ∷ codes "  out print 10" ∷ codes "  hits tick 2" ∷ codes "  out print 21" ∷ codes "  done unit after 41 steps" ∷ []) false refl refl;
}

pub guards_run_out_of_fuel : example.GuardsRunOutOfFuel
unfolding reply_computing
guards_run_out_of_fuel = record {
  with_less_fuel = guard_replies console runs.printing (verdicts_of console runs.printing) alone (m ∷ []) printing_judged example.everything m main 3
      (codes "guard m.main" ∷ codes "  authority {out}" ∷ codes "  out of fuel after 3 steps" ∷ []) true refl refl;
  with_enough_fuel = guard_replies console runs.printing (verdicts_of console runs.printing) alone (m ∷ []) printing_judged example.everything m main 4
      (codes "guard m.main" ∷ codes "  authority {out}" ∷ codes "  out print 5" ∷ codes "  done unit after 4 steps" ∷ []) false refl refl;
}

pub no_devices_are_needed : example.NoDevicesAreNeeded
unfolding reply_computing
no_devices_are_needed = record {
  audited = audit_replies console runs.values (verdicts_of console runs.values) alone (m ∷ []) values_judged (example.rule_for_all false ∷ []) m (codes "word")
      (codes "audit m.word" ∷ []) false refl refl;
  runs = guard_replies console runs.values (verdicts_of console runs.values) alone (m ∷ []) values_judged (example.rule_for_all false ∷ []) m (codes "word") 9
      (codes "guard m.word" ∷ codes "  authority {}" ∷ codes "  done \"a b\" after 1 steps" ∷ []) false refl refl;
}

pub refused_audits : example.RefusedAudits
unfolding reply_computing
refused_audits = record {
  no_module = audit_replies console runs.printing (verdicts_of console runs.printing) alone (m ∷ []) printing_judged example.everything n main
      (codes "audit n.main refused E32" ∷ []) true refl refl;
  no_definition = audit_replies console runs.printing (verdicts_of console runs.printing) alone (m ∷ []) printing_judged example.everything m (codes "none")
      (codes "audit m.none refused E33" ∷ []) true refl refl;
  of_a_number = audit_replies console runs.printing (verdicts_of console runs.printing) alone (m ∷ []) printing_judged example.everything m (codes "f")
      (codes "audit m.f refused E35" ∷ []) true refl refl;
  of_a_refused_module = audit_replies console runs.refused_module (verdicts_of console runs.refused_module) [] [] refused_judged example.everything m main
      (codes "audit m.main refused E34" ∷ []) true refl refl;
}

pub refused_guards : example.RefusedGuards
unfolding reply_computing
refused_guards = record {
  no_module = guard_replies console runs.printing (verdicts_of console runs.printing) alone (m ∷ []) printing_judged [] n main 5
      (codes "guard n.main refused E32" ∷ []) true refl refl;
  no_definition = guard_replies console runs.printing (verdicts_of console runs.printing) alone (m ∷ []) printing_judged [] m (codes "none") 5
      (codes "guard m.none refused E33" ∷ []) true refl refl;
  of_a_number = guard_replies console runs.printing (verdicts_of console runs.printing) alone (m ∷ []) printing_judged [] m (codes "f") 5
      (codes "guard m.f refused E35" ∷ []) true refl refl;
  of_a_refused_module = guard_replies console runs.refused_module (verdicts_of console runs.refused_module) [] [] refused_judged [] m main 5
      (codes "guard m.main refused E34" ∷ []) true refl refl;
}
