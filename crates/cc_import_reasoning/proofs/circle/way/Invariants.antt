use Rattle.std.proofs.Common.{◌≡◌, ℕ, ◌<◌, ◌++◌, List, length, map, Some}
use Rattle.std.specs.Str.{bytes_eq}
use Rattle.cc_graph.specs.Graph.{imported}
use Rattle.cc_graph.specs.Places.{name_at}
use Rattle.cc_judge.specs.KnownGraphs.{entries_of}
use Rattle.cc_import_reasoning.specs.Distances.{distance_at, AreKnown}
use Rattle.cc_reasons.specs.ShortestChains.{IsFirstShortestToEnd}
use Rattle.cc_module_reasons.proofs.NearestWays.{IsFirstWay}
use Rattle.cc_import_reasoning.proofs.circle.way.Given as goal

abbrev pub invariant-loop-left : goal.invariant-loop-left
invariant-loop-left l =
    record {
      low : l.at < length (entries_of l.modules);
      known : distance_at l.distances l.at ≡ Some l.left;
      way : (end : ℕ) → end < length (entries_of l.modules)
          → AreKnown (imported (entries_of l.modules)) (name_at (entries_of l.modules)) (name_at (entries_of l.modules) end) l.distances
          → (others : List (List ℕ))
          → IsFirstWay (imported (entries_of l.modules)) (bytes_eq (name_at (entries_of l.modules) end)) (name_at (entries_of l.modules) l.at) others
          → IsFirstShortestToEnd (imported (entries_of l.modules)) (bytes_eq (name_at (entries_of l.modules) end)) (name_at (entries_of l.modules) l.fn.from)
          (map (name_at (entries_of l.modules)) l.places.items ++ others);
    }

abbrev pub decreases-loop-left : goal.decreases-loop-left
decreases-loop-left l = l.left
