use Rattle.std.proofs.Common.{◌≡◌, ◌++◌, map, take}
use Rattle.std.specs.Prelude.{reverse}
use Rattle.cc_core.specs.Actions.{renamed_by}
use Rattle.cc_core.specs.Contexts.{entry_of}
use Rattle.cc_core.specs.Programs.{Definition}
use Rattle.cc_link.specs.Linking.{definition_of}
use Rattle.cc_runs.specs.Links.{linked_cell}
use Rattle.cc_machine.specs.Starts.{value_cell, value_entry}
use Rattle.cc_link.proofs.linking.add_values.Given as goal

abbrev pub invariant-loop-def : goal.invariant-loop-def
invariant-loop-def l =
    record {
      cells : map value_cell (reverse l.values.items)
          ≡ map (linked_cell (renamed_by l.to)) (reverse (map definition_of (take l.def-index l.defs)))
          ++ map value_cell (reverse l.fn.values.items);
      entries : map value_entry (reverse l.values.items)
          ≡ map (λ (d : Definition). entry_of d.signature) (reverse (map definition_of (take l.def-index l.defs)))
          ++ map value_entry (reverse l.fn.values.items);
    }
