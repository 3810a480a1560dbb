use Rattle.std.proofs.Common.{◌≡◌, ℕ, ◌<◌, length, take}
use Rattle.std.specs.List.{list_any}
use Rattle.std.specs.Str.{bytes_eq}
use Rattle.cc_graph.specs.Places.{name_at}
use Rattle.cc_judge.specs.KnownGraphs.{entries_of}
use Rattle.cc_import_reasoning.specs.Distances.{is_marked}
use Rattle.cc_import_reasoning.proofs.places.marks_of.Given as goal

abbrev pub invariant-loop-name : goal.invariant-loop-name
invariant-loop-name l =
    record {
      count : length l.marks ≡ length l.modules;
      marks : (place : ℕ) → place < length l.modules
          → is_marked l.marks place ≡ list_any (bytes_eq (name_at (entries_of l.modules) place)) (take l.name-index l.names);
    }
