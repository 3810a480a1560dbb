use Rattle.cc_binding.proofs.OperatedDevices.{operated_devices_are_named}
use Rattle.cc_binding.proofs.binding_laws.operated_devices_are_named.Goals as goal

pub returns : goal.returns
returns c = operated_devices_are_named
