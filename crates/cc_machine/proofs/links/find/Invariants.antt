use Rattle.std.proofs.Common.{◌≡◌}
use Rattle.cc_machine.specs.Environments.{follow}
use Rattle.cc_machine.proofs.links.find.Given as goal

abbrev pub invariant-loop-at : goal.invariant-loop-at
invariant-loop-at l = follow l.links l.environment l.index ≡ follow l.links l.at l.left

abbrev pub decreases-loop-at : goal.decreases-loop-at
decreases-loop-at l = l.left
