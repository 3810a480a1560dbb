use Rattle.std.proofs.Common.{◌≡◌, ◌<◌, ◌-◌, ◌%◌, ℕ, false}
use Rattle.cc_session.specs.Modules.{module_of}
use Rattle.cc_binding.specs.Binding.{is_beyond}
use Rattle.cc_binding.specs.NamedBits.{HasModuleBits}
use Rattle.cc_binding.proofs.beyond.first_device.Given as goal

abbrev pub invariant-loop-device : goal.invariant-loop-device
invariant-loop-device l = record {
  at_hand : 0 < l.device % 64 → HasModuleBits (l.device - l.device % 64) (module_of l.«module») l.word;
  none : (k : ℕ) → k < l.device → is_beyond l.names.names.items l.policy (module_of l.«module») k ≡ false;
}
