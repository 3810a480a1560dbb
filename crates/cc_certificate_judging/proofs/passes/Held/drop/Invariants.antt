use Rattle.std.proofs.Common.{length}
use Rattle.cc_certificate_judging.proofs.passes.Held.drop.Given as goal

abbrev pub decreases-loop-part : goal.decreases-loop-part
decreases-loop-part l = length l.left.items
