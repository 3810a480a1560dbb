use Rattle.std.proofs.Common.{◌≡◌, take}
use Rattle.cc_mnf.specs.ElaboratedModules.{device_names}
use Rattle.cc_vouch_replies.proofs.signatures.names_of.Given as goal

abbrev pub invariant-loop-device : goal.invariant-loop-device
invariant-loop-device l = l.names.items ≡ device_names (take l.device-index l.devices)
