use Rattle.std.proofs.Common.{◌≡◌, ◌++◌, take}
use Rattle.cc_mnf.specs.ElaboratedModules.{device_names}
use Rattle.cc_module.proofs.standing.put_devices.Given as goal

abbrev pub invariant-loop-device : goal.invariant-loop-device
invariant-loop-device l = l.names.items ≡ l.fn.names.items ++ device_names (take l.device-index l.devices)
