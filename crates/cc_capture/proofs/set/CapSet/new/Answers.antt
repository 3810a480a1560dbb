use Rattle.std.proofs.Common.{ap}
use Rattle.cc_capture.specs.Sets.{from_list}
use Rattle.cc_capture.proofs.WordSets.{set_of}
use Rattle.cc_capture.proofs.set.CapSet.new.Goals as goal

pub returns : goal.returns
unfolding from_list
returns c = ap set_of c.new.ensures.items
