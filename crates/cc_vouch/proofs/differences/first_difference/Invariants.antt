use Rattle.std.proofs.Common.{◌≡◌, ◌+◌, length}
use Rattle.cc_vouch.specs.BindViews.{DiffersAs}
use Rattle.cc_vouch.proofs.differences.first_difference.Given as goal

abbrev pub invariant-loop-one : goal.invariant-loop-one
invariant-loop-one l = DiffersAs l.count l.ones l.others l.binds l.known × (l.count + length l.ones ≡ length l.binds)

abbrev pub decreases-loop-one : goal.decreases-loop-one
decreases-loop-one l = length l.ones
