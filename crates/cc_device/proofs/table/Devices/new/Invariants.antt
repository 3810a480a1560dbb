use Rattle.std.proofs.Common.{◌≡◌, map, take}
use Rattle.cc_device.specs.Declarations.{declared_devices}
use Rattle.cc_device.specs.DeviceViews.{state_of}
use Rattle.cc_device.proofs.table.Devices.new.Given as goal

abbrev pub invariant-loop-decl : goal.invariant-loop-decl
invariant-loop-decl l = map state_of l.states.items ≡ declared_devices (take l.decl-index l.decls)
