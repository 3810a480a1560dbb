use Rattle.std.proofs.Common.{◌≡◌}
use Rattle.cc_capture.specs.Sets.{from_list, flat_image}
use Rattle.cc_core.specs.Substitution.{filled_element}
use Rattle.cc_solve.specs.Solutions.{filling_of}
use Rattle.cc_solve.proofs.judging.filled.Given as goal

abbrev pub invariant-loop-elem : goal.invariant-loop-elem
invariant-loop-elem l = l.whole ≡ flat_image (filled_element (filling_of l.filling)) (from_list l.yielded)
