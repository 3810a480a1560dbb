use Rattle.std.proofs.Common.{◌≡◌, map, take}
use Rattle.cc_vouching.specs.VouchedDefinitions.{device_bind}
use Rattle.cc_vouch.specs.BindViews.{binds_of}
use Rattle.cc_module_vouching.proofs.known.device_binds.Given as goal

-- the binds so far are those of the devices so far
abbrev pub invariant-loop-device : goal.invariant-loop-device
invariant-loop-device l = binds_of l.binds.items ≡ map device_bind (take l.device-index l.devices)
