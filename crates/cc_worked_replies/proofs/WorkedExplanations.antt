-- Replies that explain signatures, by computation.
use Rattle.std.proofs.Common.{codes, true, false, List, ℕ, [], ◌∷◌, refl, if◌then◌else◌}
use Rattle.std.specs.Str.{bytes_eq}
use Rattle.cc_base.specs.declared.code.Code.TheVariants.{E32, E33, E34}
use Rattle.cc_capture.specs.declared.var.Var.TheVariants.{Free}
use Rattle.cc_capture.specs.declared.var.Elem.TheVariants.{Var as Variable, Cap}
use Rattle.cc_graph.specs.Graph.{ImportMap}
use Rattle.cc_entry_laws.specs.PresentLinks.{DefinitionOf, DeviceAt, Universal}
use Rattle.cc_verdicts.specs.ModuleVerdicts.{Finding, ModuleVerdict}
use Rattle.cc_verdicts.specs.PresentTexts.{finding_in}
use Rattle.cc_replies.proofs.FirstChains.{path_of, path_from}
use Rattle.cc_worked_replies.specs.ExplainExamples as example
use Rattle.cc_worked_replies.specs.RunExamples as runs
use Rattle.cc_worked_replies.specs.TextReplies.{console, console_and_counter, m, n, main}
use Rattle.cc_worked_replies.proofs.ComputedChains.{quick_entry, explanation_by, explains, explain_replies, explain_refused}
use Rattle.cc_worked_replies.proofs.ComputedReplies.{verdicts_by, AreJudged, are_judged, reply_computing}
use Rattle.cc_worked_replies.proofs.WorkedRuns.{alone, verdicts_of, printing_judged, three_imports, three_names, three_verdicts, three_judged, refused_judged}

abbrev app : List ℕ
app = codes "app"

pub three_modules_explained : example.ThreeModulesExplained
unfolding reply_computing quick_entry path_of path_from
three_modules_explained =
    explain_replies console_and_counter runs.three_modules three_verdicts three_imports three_names three_judged app main
    (Variable (Free 0) ∷ Variable (Free 1) ∷ [])
    (explanation_by console_and_counter runs.three_modules three_verdicts app main (DeviceAt 0)
    ∷ explanation_by console_and_counter runs.three_modules three_verdicts app main (DeviceAt 1) ∷ [])
    (codes "explain app.main" ∷ codes "  out: app.main logger.line out" ∷ codes "  hits: app.main counter.next hits" ∷ [])
    refl (
      explanation_by console_and_counter runs.three_modules three_verdicts app main (DeviceAt 0),
      explanation_by console_and_counter runs.three_modules three_verdicts app main (DeviceAt 1) ∷ [],
      explains console_and_counter runs.three_modules three_verdicts app main (DeviceAt 0) (Variable (Free 0))
          (DefinitionOf (codes "logger") (codes "line") ∷ DeviceAt 0 ∷ []) refl refl,
      (
        explanation_by console_and_counter runs.three_modules three_verdicts app main (DeviceAt 1),
        [],
        explains console_and_counter runs.three_modules three_verdicts app main (DeviceAt 1) (Variable (Free 1))
            (DefinitionOf (codes "counter") (codes "next") ∷ DeviceAt 1 ∷ []) refl refl,
        refl,
        refl,
      ),
      refl,
    )
    refl

-- the import graph of the chain, and its order
abbrev chain_imports : ImportMap
chain_imports = (app, codes "m3" ∷ []) ∷ (codes "m1", []) ∷ (codes "m2", codes "m1" ∷ []) ∷ (codes "m3", codes "m2" ∷ []) ∷ []

abbrev chain_names : List (List ℕ)
chain_names = codes "m1" ∷ codes "m2" ∷ codes "m3" ∷ app ∷ []

-- the verdicts of its modules, one after the other
abbrev first_verdicts : List ℕ → ModuleVerdict
first_verdicts = verdicts_of console_and_counter example.chain

abbrev second_findings : List ℕ → List Finding
second_findings name =
    if bytes_eq name (codes "m2") then finding_in (first_verdicts (codes "m1")) (codes "f1") ∷ [] else []

abbrev second_verdicts : List ℕ → ModuleVerdict
second_verdicts = verdicts_by console_and_counter example.chain second_findings

abbrev third_findings : List ℕ → List Finding
third_findings name =
    if bytes_eq name (codes "m3") then finding_in (second_verdicts (codes "m2")) (codes "f2") ∷ [] else second_findings name

abbrev third_verdicts : List ℕ → ModuleVerdict
third_verdicts = verdicts_by console_and_counter example.chain third_findings

abbrev chain_findings : List ℕ → List Finding
chain_findings name =
    if bytes_eq name app then finding_in (third_verdicts (codes "m3")) (codes "f3") ∷ [] else third_findings name

abbrev chain_verdicts : List ℕ → ModuleVerdict
chain_verdicts = verdicts_by console_and_counter example.chain chain_findings

chain_judged : AreJudged console_and_counter example.chain chain_verdicts chain_imports chain_names
unfolding reply_computing
chain_judged =
    are_judged console_and_counter 12 example.chain chain_verdicts chain_imports chain_names
    ((refl, tt), (tt, tt)) ((refl, (refl, (refl, tt))), ((refl, (refl, tt)), ((refl, tt), (tt, tt)))) refl (refl, (refl, (refl, (refl, tt))))
    (record { steps = refl; whole = refl })

pub chain_explained : example.ChainExplained
unfolding reply_computing quick_entry path_of path_from
chain_explained =
    explain_replies console_and_counter example.chain chain_verdicts chain_imports chain_names chain_judged app main
    (Variable (Free 0) ∷ [])
    (explanation_by console_and_counter example.chain chain_verdicts app main (DeviceAt 0) ∷ [])
    (codes "explain app.main" ∷ codes "  out: app.main m3.f3 m2.f2 m1.f1 out" ∷ [])
    refl (
      explanation_by console_and_counter example.chain chain_verdicts app main (DeviceAt 0),
      [],
      explains console_and_counter example.chain chain_verdicts app main (DeviceAt 0) (Variable (Free 0))
          (DefinitionOf (codes "m3") (codes "f3") ∷ DefinitionOf (codes "m2") (codes "f2") ∷ DefinitionOf (codes "m1") (codes "f1") ∷ DeviceAt 0 ∷ [])
          refl refl,
      refl,
      refl,
    )
    refl

universal_judged : AreJudged console example.universal (verdicts_of console example.universal) alone (m ∷ [])
unfolding reply_computing
universal_judged =
    are_judged console 12 example.universal (verdicts_of console example.universal) alone (m ∷ []) (tt, tt) (tt, tt) refl (refl, tt)
    (record { steps = refl; whole = refl })

pub universal_explained : example.UniversalExplained
unfolding reply_computing quick_entry path_of path_from
universal_explained = record {
  any =
      explain_replies console example.universal (verdicts_of console example.universal) alone (m ∷ []) universal_judged m (codes "any")
      (Cap ∷ []) (explanation_by console example.universal (verdicts_of console example.universal) m (codes "any") Universal ∷ [])
      (codes "explain m.any" ∷ codes "  cap: m.any cap" ∷ [])
      refl (
        explanation_by console example.universal (verdicts_of console example.universal) m (codes "any") Universal,
        [],
        explains console example.universal (verdicts_of console example.universal) m (codes "any") Universal Cap (Universal ∷ []) refl refl,
        refl,
        refl,
      )
      refl;
  none =
      explain_replies console example.universal (verdicts_of console example.universal) alone (m ∷ []) universal_judged m (codes "five")
      [] [] (codes "explain m.five" ∷ []) refl refl refl;
}

pub refused_explanations : example.RefusedExplanations
unfolding reply_computing
refused_explanations = record {
  no_module =
      explain_refused console runs.printing (verdicts_of console runs.printing) alone (m ∷ []) printing_judged n main E32
      (codes "explain n.main refused E32" ∷ []) refl refl;
  no_definition =
      explain_refused console runs.printing (verdicts_of console runs.printing) alone (m ∷ []) printing_judged m (codes "none") E33
      (codes "explain m.none refused E33" ∷ []) refl refl;
  of_a_refused_module =
      explain_refused console runs.refused_module (verdicts_of console runs.refused_module) [] [] refused_judged m main E34
      (codes "explain m.main refused E34" ∷ []) refl refl;
}
