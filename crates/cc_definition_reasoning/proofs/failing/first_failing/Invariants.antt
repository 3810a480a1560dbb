use Rattle.std.proofs.Common.{take}
use Rattle.cc_checking.specs.Fillings.{AllServed}
use Rattle.cc_sets.specs.Marked.{IsClear}
use Rattle.cc_subty.specs.Demands.{asked_of}
use Rattle.cc_solve.specs.Solutions.{filling_of}
use Rattle.cc_definition_reasoning.proofs.failing.first_failing.Given as goal

-- no mark is left, and what was gone over is served
abbrev pub invariant-loop-index : goal.invariant-loop-index
invariant-loop-index l =
    record { clear : IsClear l.marks; served : AllServed (filling_of l.filling) (asked_of (take l.index l.demands)) }
