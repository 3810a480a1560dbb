use Rattle.std.proofs.Common.{◌≡◌}
use Rattle.std.specs.List.{filter, range_with_len}
use Rattle.cc_core.specs.Stores.{is_permitted}
use Rattle.cc_session.proofs.starting.authority_of.Given as goal

abbrev pub invariant-loop-device : goal.invariant-loop-device
invariant-loop-device l = l.devices.items ≡ filter (is_permitted l.set) (range_with_len 0 l.device)
