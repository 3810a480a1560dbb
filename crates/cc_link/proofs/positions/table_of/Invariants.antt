use Rattle.std.proofs.Common.{◌≡◌, ℕ, List, map, take}
use Rattle.std.specs.Prelude.{reverse}
use Rattle.cc_link.specs.Linking.{definition_of}
use Rattle.cc_link.specs.Tables.{definition_position}
use Rattle.cc_runs.specs.Links.{position_among}
use Rattle.cc_link.proofs.positions.table_of.Given as goal

abbrev pub invariant-loop-index : goal.invariant-loop-index
invariant-loop-index l =
    (name : List ℕ) → definition_position l.table name
    ≡ position_among l.first name (reverse (map definition_of (take l.index l.defs)))
