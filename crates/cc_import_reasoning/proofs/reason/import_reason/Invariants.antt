use Rattle.std.proofs.Common.{◌≡◌, List, ℕ, map, IsTrue}
use Rattle.cc_graph.specs.Graph.{is_present}
use Rattle.cc_judge.specs.Kept.{named_verdicts}
use Rattle.cc_judge.specs.KnownGraphs.{entries_of}
use Rattle.cc_module.specs.Findings.{finding_of}
use Rattle.cc_parse.specs.Trees.{import_syntax}
use Rattle.cc_verdicts.specs.ModuleVerdicts.{ModuleVerdict}
use Rattle.cc_verdicts.specs.PresentTexts.{Texts, finding_for}
use Rattle.cc_import_reasoning.specs.ToldImports.{AreOfTexts}
use Rattle.cc_import_reasoning.proofs.GivenImports.{AllFind}
use Rattle.cc_import_reasoning.proofs.reason.import_reason.Given as goal

abbrev pub invariant-loop-at : goal.invariant-loop-at
invariant-loop-at l =
    (texts : Texts) (all : List ℕ → ModuleVerdict) → AreOfTexts texts all (entries_of l.modules) (named_verdicts l.verdicts)
    → IsTrue (is_present (entries_of l.modules) l.name)
    → map finding_of l.findings ≡ map (finding_for texts all l.name) (map import_syntax l.imports)
    → AllFind texts all l.name l.at (map import_syntax l.imports)
