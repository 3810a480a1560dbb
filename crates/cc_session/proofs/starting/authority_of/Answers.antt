use Rattle.cc_core.specs.Stores.{is_permitted}
use Rattle.cc_session.proofs.Lists.{chosen_more}
use Rattle.cc_session.proofs.starting.authority_of.Goals as goal

pub loop-device-preserved : goal.loop-device-preserved
loop-device-preserved c =
    chosen_more (is_permitted c.args.set.now) c.loop-device.devices.items c.add_permitted.new.devices.items
    c.loop-device.device c.loop-device.invariant c.in_ok-add_permitted.ensures
