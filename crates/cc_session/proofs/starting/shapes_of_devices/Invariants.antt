use Rattle.std.proofs.Common.{◌≡◌, take}
use Rattle.cc_device.specs.Declarations.{declared_bases}
use Rattle.cc_session.proofs.starting.shapes_of_devices.Given as goal

abbrev pub invariant-loop-device : goal.invariant-loop-device
invariant-loop-device l = l.shapes.items ≡ declared_bases (take l.device-index l.devices)
