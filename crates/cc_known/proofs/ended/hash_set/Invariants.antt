use Rattle.std.proofs.Common.{◌≡◌}
use Rattle.std.specs.Prelude.{fold}
use Rattle.std.specs.Hash as fed
use Rattle.std.specs.List.{flat_map}
use Rattle.cc_known.specs.EndedDemands.{number_of}
use Rattle.cc_known.proofs.ended.hash_set.Given as goal

abbrev pub invariant-loop-elem : goal.invariant-loop-elem
invariant-loop-elem g l =
    l.state ≡ fold g.H.Hasher.write l.fn.state (flat_map (λ e. fed.u32 (number_of e)) l.yielded)
