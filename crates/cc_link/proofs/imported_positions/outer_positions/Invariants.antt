use Rattle.std.proofs.Common.{◌≡◌, map, take}
use Rattle.std.specs.Prelude.{reverse}
use Rattle.cc_link.specs.Tables.{module_position}
use Rattle.cc_link.specs.ModuleLinks.{device_positions, with_imports}
use Rattle.cc_parse.specs.Trees.{import_syntax}
use Rattle.cc_link.proofs.imported_positions.outer_positions.Given as goal

abbrev pub invariant-loop-device : goal.invariant-loop-device
invariant-loop-device l = reverse l.positions.items ≡ device_positions l.device

abbrev pub invariant-loop-import : goal.invariant-loop-import
invariant-loop-import l =
    reverse l.positions.items
    ≡ with_imports (module_position l.table) (device_positions l.devices) (map import_syntax (take l.import-index l.imports))
