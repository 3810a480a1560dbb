use Rattle.std.proofs.Common.{◌≡◌}
use Rattle.cc_capture.specs.Sets.{from_list, flat_image}
use Rattle.cc_core.specs.Actions.{action_of}
use Rattle.cc_core.proofs.acting.all_stay.Given as goal

abbrev pub invariant-loop-elem : goal.invariant-loop-elem
invariant-loop-elem l = from_list l.yielded ≡ flat_image ((action_of l.action).element l.depth) (from_list l.yielded)
