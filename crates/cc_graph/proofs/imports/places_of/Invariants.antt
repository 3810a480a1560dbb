use Rattle.std.proofs.Common.{◌≡◌, ℕ, ◌<◌, ◌≤◌, false, length, take}
use Rattle.std.specs.List.{list_any}
use Rattle.std.specs.Str.{bytes_eq}
use Rattle.cc_graph.specs.Places.{has_bit, width_for, name_at}
use Rattle.cc_graph.proofs.imports.places_of.Given as goal

abbrev pub invariant-loop-name : goal.invariant-loop-name
invariant-loop-name l =
    record {
      width : length l.row ≡ width_for (length l.modules);
      bits : (place : ℕ) → place < length l.modules → has_bit l.row place ≡ list_any (bytes_eq
          (name_at l.modules place)) (take l.name-index l.names);
      inside : (place : ℕ) → length l.modules ≤ place → has_bit l.row place ≡ false;
    }
