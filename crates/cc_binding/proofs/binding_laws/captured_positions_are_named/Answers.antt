use Rattle.cc_binding.proofs.OperatedDevices.{captured_positions_are_named}
use Rattle.cc_binding.proofs.binding_laws.captured_positions_are_named.Goals as goal

pub returns : goal.returns
returns c = captured_positions_are_named
