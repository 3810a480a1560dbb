use Rattle.std.proofs.Common.{◌≡◌, ◌≤◌, ◌++◌, length, drop}
use Rattle.cc_verdicts.specs.PresentTexts.{graph_of}
use Rattle.cc_judge.specs.KnownGraphs.{entries_of}
use Rattle.cc_judge.proofs.known_graph.modules_of.Given as goal

abbrev pub invariant-loop-place : goal.invariant-loop-place
invariant-loop-place l =
    record {
      within : l.place ≤ length l.texts;
      same : graph_of l.texts ≡ entries_of l.modules.items ++ graph_of (drop l.place l.texts);
    }
