use Rattle.std.proofs.Common.{◌≡◌, ◌≤◌, length, map, take}
use Rattle.cc_parse.specs.Trees.{import_syntax}
use Rattle.cc_judge.specs.Dependencies.{sources_of}
use Rattle.cc_judge.proofs.known_graph.are_from.Given as goal

abbrev pub invariant-loop-at : goal.invariant-loop-at
invariant-loop-at l =
    record {
      within : l.at ≤ length l.imports;
      same : take l.at l.sources ≡ sources_of (map import_syntax (take l.at l.imports));
    }
