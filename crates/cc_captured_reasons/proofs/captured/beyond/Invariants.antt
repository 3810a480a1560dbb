use Rattle.std.proofs.Common.{◌≡◌}
use Rattle.cc_captured_reasons.specs.Tellings.{telling, numbered}
use Rattle.cc_captured_reasons.proofs.captured.beyond.Given as goal

abbrev pub invariant-loop-elem : goal.invariant-loop-elem
invariant-loop-elem l = l.captured.items ≡ numbered (telling l.told l.right) l.yielded
