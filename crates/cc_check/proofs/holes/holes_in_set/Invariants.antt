use Rattle.std.proofs.Common.{◌≡◌}
use Rattle.cc_known.specs.FilledHoles.{holes_listed}
use Rattle.cc_check.proofs.holes.holes_in_set.Given as goal

abbrev pub invariant-loop-elem : goal.invariant-loop-elem
invariant-loop-elem l = l.holes ≡ holes_listed l.yielded
