use Rattle.cc_binding.proofs.OperatedDevices.{bound_devices_are_allowed}
use Rattle.cc_binding.proofs.binding_laws.bound_devices_are_allowed.Goals as goal

pub returns : goal.returns
returns c = bound_devices_are_allowed
