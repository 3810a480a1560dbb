use Rattle.std.proofs.Common.{◌≡◌, drop, length, map}
use Rattle.cc_session.specs.Modules.{module_of}
use Rattle.cc_binding.specs.Binding.{first_beyond}
use Rattle.cc_binding.proofs.beyond.first_beyond.Given as goal

abbrev pub invariant-loop-at : goal.invariant-loop-at
invariant-loop-at l =
    first_beyond l.names.names.items l.policy (length l.entry.devices.items) (map module_of (drop l.at l.entry.modules.items))
    ≡ first_beyond l.names.names.items l.policy (length l.entry.devices.items) (map module_of l.entry.modules.items)
