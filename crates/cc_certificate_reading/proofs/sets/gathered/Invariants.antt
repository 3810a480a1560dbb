use Rattle.std.proofs.Common.{◌≡◌, length}
use Rattle.cc_capture.specs.Sets.{from_list}
use Rattle.cc_certificate_reading.proofs.GatheredSets.{with_all}
use Rattle.cc_certificate_reading.proofs.sets.gathered.Given as goal

abbrev pub invariant-loop-elem : goal.invariant-loop-elem
invariant-loop-elem l = with_all l.left.items l.set ≡ from_list l.fn.elems.items

abbrev pub decreases-loop-elem : goal.decreases-loop-elem
decreases-loop-elem l = length l.left.items
