use Rattle.cc_solve.specs.Ends.{Puts}
use Rattle.cc_solve.proofs.Puttings.{IsListed}
use Rattle.cc_solve.proofs.ends.put_elems.Given as goal

abbrev pub invariant-loop-elem : goal.invariant-loop-elem
invariant-loop-elem l = Puts l.globals (IsListed l.yielded) l.fn.marks l.marks l.fn.ends l.ends
