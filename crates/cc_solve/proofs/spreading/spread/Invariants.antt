use Rattle.cc_solve.specs.Spreading.{Spreads}
use Rattle.cc_solve.proofs.Puttings.{IsListed}
use Rattle.cc_solve.proofs.spreading.spread.Given as goal

abbrev pub invariant-loop-elem : goal.invariant-loop-elem
invariant-loop-elem l = Spreads l.from (IsListed l.yielded) l.fn.sets l.sets l.fn.queue.items l.queue.items
