use Rattle.std.proofs.Common.{◌≡◌, None}
use Rattle.cc_captured_reasons.specs.Tellings.{telling, lowest}
use Rattle.cc_captured_reasons.proofs.tellings.lowest.Given as goal

abbrev pub invariant-loop-elem : goal.invariant-loop-elem
invariant-loop-elem l = l.number ≡ lowest (telling l.told l.right) None l.yielded
