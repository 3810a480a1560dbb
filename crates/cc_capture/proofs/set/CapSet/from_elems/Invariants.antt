use Rattle.std.proofs.Common.{◌≡◌, take}
use Rattle.cc_capture.specs.Sets.{from_list}
use Rattle.cc_capture.proofs.set.CapSet.from_elems.Given as goal

abbrev pub invariant-loop-elem : goal.invariant-loop-elem
invariant-loop-elem l = l.set ≡ from_list (take l.elem-index l.elems)
