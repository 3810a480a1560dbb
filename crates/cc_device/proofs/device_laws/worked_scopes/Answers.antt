use Rattle.cc_device.proofs.Scopes.{scopes_that_fit, scopes_that_do_not_fit}
use Rattle.cc_device.proofs.device_laws.worked_scopes.Goals as goal

pub returns : goal.returns
returns c = record { fit = scopes_that_fit; do_not_fit = scopes_that_do_not_fit }
