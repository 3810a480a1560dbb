use Rattle.std.proofs.Common.{take}
use Rattle.cc_checking.specs.Fillings.{AllServed}
use Rattle.cc_sets.specs.Marked.{IsClear}
use Rattle.cc_subty.specs.Demands.{asked_of}
use Rattle.cc_solve.specs.Solutions.{filling_of}
use Rattle.cc_solve.proofs.judging.first_in.Given as goal

abbrev pub invariant-loop-demand : goal.invariant-loop-demand
invariant-loop-demand l =
    record { clear : IsClear l.marks; served : AllServed (filling_of l.filling) (asked_of (take l.demand-index l.demands)) }
