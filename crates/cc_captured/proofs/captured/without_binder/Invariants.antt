use Rattle.std.proofs.Common.{◌≡◌}
use Rattle.cc_capture.specs.Sets.{from_list, flat_image}
use Rattle.cc_core.specs.Captured.{outside}
use Rattle.cc_captured.proofs.captured.without_binder.Given as goal

abbrev pub invariant-loop-elem : goal.invariant-loop-elem
invariant-loop-elem l = l.outer ≡ flat_image outside (from_list l.yielded)
