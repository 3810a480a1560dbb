-- Replies that show signatures, by computation.
use Rattle.std.proofs.Common.{codes, true, false, [], ◌∷◌, refl}
use Rattle.cc_worked_replies.specs.RunExamples.{printing, refused_module, three_modules}
use Rattle.cc_worked_replies.specs.SignatureExamples as example
use Rattle.cc_worked_replies.specs.TextReplies.{console, console_and_counter, m, n}
use Rattle.cc_worked_replies.proofs.ComputedAnswers.{signature_replies}
use Rattle.cc_worked_replies.proofs.ComputedReplies.{AreJudged, are_judged, reply_computing}
use Rattle.cc_worked_replies.proofs.WorkedRuns.{alone, verdicts_of, printing_judged, refused_judged, three_imports, three_names, three_verdicts, three_judged}

tools_judged : AreJudged console_and_counter example.tools (verdicts_of console_and_counter example.tools) ((codes "tools", []) ∷ []) (codes "tools" ∷ [])
unfolding reply_computing
tools_judged =
    are_judged console_and_counter 12 example.tools (verdicts_of console_and_counter example.tools) ((codes "tools", []) ∷ []) (codes "tools" ∷ [])
    ((refl, tt), (tt, tt)) (tt, tt) refl (refl, tt) (record { steps = refl; whole = refl })

pub definitions_are_shown : example.DefinitionsAreShown
unfolding reply_computing
definitions_are_shown =
    signature_replies console_and_counter example.tools (verdicts_of console_and_counter example.tools) ((codes "tools", []) ∷ []) (codes "tools" ∷ []) tools_judged (codes "tools")
    (codes "sig tools" ∷ codes "  f: ((_0: Int) -> Unit)^{out}" ∷ codes "  main: ((_0: Unit) -> Unit)^{out}" ∷ codes "  next: ((_0: Unit) -> Int)^{out, hits}" ∷ codes "  same: (_0: Int) -> Int^{_0}" ∷ codes "  five: Int" ∷ []) false refl refl

pub importing_module_is_shown : example.ImportingModuleIsShown
unfolding reply_computing
importing_module_is_shown =
    signature_replies console_and_counter three_modules three_verdicts three_imports three_names three_judged (codes "app")
    (codes "sig app" ∷ codes "  main: ((_0: Unit) -> Unit)^{out, hits}" ∷ []) false refl refl

nothing_judged : AreJudged console example.nothing (verdicts_of console example.nothing) ((codes "empty", []) ∷ []) (codes "empty" ∷ [])
unfolding reply_computing
nothing_judged =
    are_judged console 12 example.nothing (verdicts_of console example.nothing) ((codes "empty", []) ∷ []) (codes "empty" ∷ [])
    (tt, tt) (tt, tt) refl (refl, tt) (record { steps = refl; whole = refl })

pub no_definition_is_shown : example.NoDefinitionIsShown
unfolding reply_computing
no_definition_is_shown =
    signature_replies console example.nothing (verdicts_of console example.nothing) ((codes "empty", []) ∷ []) (codes "empty" ∷ []) nothing_judged (codes "empty")
    (codes "sig empty" ∷ []) false refl refl

pub refused_signatures : example.RefusedSignatures
unfolding reply_computing
refused_signatures = record {
  no_module = signature_replies console printing (verdicts_of console printing) alone (m ∷ []) printing_judged n
      (codes "sig n refused E32" ∷ []) true refl refl;
  of_a_refused_module = signature_replies console refused_module (verdicts_of console refused_module) [] [] refused_judged m
      (codes "sig m refused E34" ∷ []) true refl refl;
}
