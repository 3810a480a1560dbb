use Rattle.std.proofs.Common.{None, arith}
use Rattle.std.specs.Option.{option_map}
use Rattle.cc_base.specs.declared.literal.Op.TheVariants.{Tick}
use Rattle.cc_base.specs.Literals.{NumberLiteral}
use Rattle.cc_device.specs.DeviceViews.{state_of}
use Rattle.cc_device.proofs.Tables.{replied, no_device}
use Rattle.cc_device.proofs.table.Devices.tick.Goals as goal

pub returns-then-place-len : goal.returns-then-place-len
returns-then-place-len c =
    replied state_of c.self.inside.states.items c.args.self.now c.args.device Tick None (option_map NumberLiteral c.count.result) c.index_mut.result.now c.count.new.state
    c.self.view_is (omega arith) c.index_mut.ensures.value c.count.ensures

pub returns-else-place-len : goal.returns-else-place-len
returns-else-place-len c = no_device state_of c.self.inside.states.items c.args.self.now c.args.device Tick None c.self.view_is (omega arith)
