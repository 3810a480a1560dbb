use Rattle.std.proofs.Common.{◌≡◌, ◌-◌}
use Rattle.cc_capture.specs.Sets.{from_list, flat_image}
use Rattle.cc_certificate_judging.specs.Judging.{reading}
use Rattle.cc_certificate_judging.proofs.claims.read_set.Given as goal

abbrev pub invariant-loop-elem : goal.invariant-loop-elem
invariant-loop-elem l = l.read ≡ flat_image ((reading l.names (l.entries - l.names)).element l.depth) (from_list l.yielded)
