use Rattle.std.proofs.Common.{◌≡◌}
use Rattle.cc_known.specs.Signatures.{greatest_listed}
use Rattle.cc_check.proofs.signature.greatest_in_set.Given as goal

abbrev pub invariant-loop-elem : goal.invariant-loop-elem
invariant-loop-elem l = l.greatest ≡ greatest_listed l.first l.yielded
