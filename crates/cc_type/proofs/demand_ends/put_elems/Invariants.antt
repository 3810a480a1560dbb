use Rattle.cc_known.specs.EndedDemands.{PutsBeyond}
use Rattle.cc_known.proofs.DemandEnds.{IsListed}
use Rattle.cc_type.proofs.demand_ends.put_elems.Given as goal

abbrev pub invariant-loop-elem : goal.invariant-loop-elem
invariant-loop-elem l = PutsBeyond l.right (IsListed l.yielded) l.fn.waiting l.fn.ends l.waiting l.ends
