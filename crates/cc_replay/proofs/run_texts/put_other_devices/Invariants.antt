use Rattle.std.proofs.Common.{◌≡◌, ◌++◌, take}
use Rattle.std.specs.String.{string_bytes}
use Rattle.cc_replay.specs.RunTexts.{other_devices}
use Rattle.cc_replay.proofs.run_texts.put_other_devices.Given as goal

abbrev pub invariant-loop-device : goal.invariant-loop-device
invariant-loop-device l =
    string_bytes l.out ≡ string_bytes l.initial.out ++ other_devices l.names.names.items (take l.device-index l.devices)
