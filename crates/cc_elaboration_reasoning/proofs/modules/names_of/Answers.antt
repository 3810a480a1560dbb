use Rattle.std.proofs.Common.{◌+◌, ◌++◌, drop, sym, ap, ◌∙◌}
use Rattle.cc_mnf.specs.ElaboratedModules.{device_names}
use Rattle.cc_mnf.proofs.ModuleLoops.{drop_next, one_name_more}
use Rattle.cc_elaboration_reasoning.proofs.modules.names_of.Goals as goal

pub loop-device-preserved : goal.loop-device-preserved
loop-device-preserved c =
    let devices = c.args.devices.now in
    let device = c.device-item.result in
    let rest = drop (c.loop-device.device-index + 1) devices in
    let left = drop_next devices c.loop-device.device-index device c.loop-device-test.true c.device-item.is in
    let whole = ap (λ ds. c.loop-device.names ++ device_names ds) (sym left) ∙ c.loop-device.invariant in
    one_name_more c.loop-device.names c.add.new.self device.name (device_names rest) (device_names devices) c.requires whole c.in_ok-add.ensures
