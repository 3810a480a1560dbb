use Rattle.cc_link.specs.Tables.{module_position}
use Rattle.cc_link.proofs.Listed.{import_more}
use Rattle.cc_link.specs.ModuleLinks.{device_positions}
use Rattle.cc_parse.specs.Trees.{import_syntax}
use Rattle.cc_link.proofs.imported_positions.outer_positions.Goals as goal

pub loop-import-preserved : goal.loop-import-preserved
loop-import-preserved c =
    import_more import_syntax (module_position c.args.table.now) (device_positions c.args.devices) c.args.imports.now
    c.loop-import.import-index c.import-item.result c.loop-import.positions.items c.push-in-loop-import.new.self.items
    c.imported-target.result c.loop-import-test.true c.import-item.is c.loop-import.invariant
    c.in_ok-push-2.ensures.items c.imported-target.ensures
