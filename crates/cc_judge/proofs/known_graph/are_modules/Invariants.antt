use Rattle.std.proofs.Common.{◌≡◌, ◌≤◌, ◌++◌, length, take, drop}
use Rattle.cc_verdicts.specs.PresentTexts.{graph_of}
use Rattle.cc_judge.specs.KnownGraphs.{entries_of}
use Rattle.cc_judge.proofs.known_graph.are_modules.Given as goal

abbrev pub invariant-loop-place : goal.invariant-loop-place
invariant-loop-place l =
    record {
      within : l.place ≤ length l.texts;
      fits : l.at ≤ length l.modules;
      same : graph_of l.texts ≡ take l.at (entries_of l.modules) ++ graph_of (drop l.place l.texts);
    }
