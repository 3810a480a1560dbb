use Rattle.std.proofs.Common.{take}
use Rattle.cc_sets.specs.Marked.{IsClear}
use Rattle.cc_subty.specs.Demands.{asked_of}
use Rattle.cc_solve.specs.Adding.{AddsThose, IsSeed, IsFlow}
use Rattle.cc_solve.proofs.solving.collect.Given as goal

abbrev pub invariant-loop-demand : goal.invariant-loop-demand
invariant-loop-demand l =
    record {
      clear : IsClear l.marks;
      sets : AddsThose (IsSeed l.globals (asked_of (take l.demand-index l.demands))) l.fn.sets l.sets;
      flows : AddsThose (IsFlow l.globals (asked_of (take l.demand-index l.demands))) l.fn.flows l.flows;
    }
