use Rattle.std.proofs.Common.{◌≡◌, None}
use Rattle.cc_captured_reasons.specs.Tellings.{telling, first_numbered}
use Rattle.cc_captured_reasons.proofs.tellings.first_numbered.Given as goal

abbrev pub invariant-loop-elem : goal.invariant-loop-elem
invariant-loop-elem l = l.found ≡ first_numbered (telling l.told l.right) l.number None l.yielded
