use Rattle.std.proofs.Common.{◌≡◌, ◌++◌, drop}
use Rattle.cc_mnf.specs.ElaboratedModules.{device_names}
use Rattle.cc_elaboration_reasoning.proofs.modules.names_of.Given as goal

-- the names so far, and those of the devices that are left, are those of all
abbrev pub invariant-loop-device : goal.invariant-loop-device
invariant-loop-device l = l.names ++ device_names (drop l.device-index l.devices) ≡ device_names l.devices
