use Rattle.std.proofs.Common.{◌≡◌, ◌+◌, List, length}
use Rattle.cc_core.specs.Programs.{Module}
use Rattle.cc_link.specs.Linking.{module_in_program, ArePositions}
use Rattle.cc_link.specs.Tables.{Finds}
use Rattle.cc_runs.specs.Links.{count_definitions}
use Rattle.cc_link.proofs.positions.linked_positions.Given as goal

abbrev pub invariant-loop-device : goal.invariant-loop-device
invariant-loop-device l =
    record {
      count : length l.to.items ≡ l.device;
      placed : (earlier : List Module) → ArePositions l.devices earlier (module_in_program l.current).imports l.to.items;
    }

abbrev pub invariant-loop-index : goal.invariant-loop-index
invariant-loop-index l =
    record {
      count : length l.to.items ≡ l.devices + l.index;
      placed : (earlier : List Module) → Finds l.devices earlier l.table
          → ArePositions l.devices earlier (module_in_program l.current).imports l.to.items;
    }

abbrev pub invariant-loop-own : goal.invariant-loop-own
invariant-loop-own l =
    record {
      count : length l.to.items ≡ l.devices + length (module_in_program l.current).imports + l.own;
      placed : (earlier : List Module) → Finds l.devices earlier l.table
          → l.first ≡ l.devices + count_definitions earlier
          → ArePositions l.devices earlier (module_in_program l.current).imports l.to.items;
    }
