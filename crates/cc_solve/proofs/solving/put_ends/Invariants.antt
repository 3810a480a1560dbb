use Rattle.cc_solve.specs.Adding.{AddsThose, IsSeedOf, IsFlowOf}
use Rattle.cc_solve.proofs.Puttings.{IsListed}
use Rattle.cc_solve.proofs.solving.put_ends.Given as goal

abbrev pub invariant-loop-elem : goal.invariant-loop-elem
invariant-loop-elem l =
    record {
      sets : AddsThose (IsSeedOf l.hole (IsListed l.yielded)) l.fn.sets l.sets;
      flows : AddsThose (IsFlowOf l.hole (IsListed l.yielded)) l.fn.flows l.flows;
    }
