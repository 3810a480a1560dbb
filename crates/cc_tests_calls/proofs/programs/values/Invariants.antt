use Rattle.std.proofs.Common.{take}
use Rattle.cc_tests_calls.specs.Linked.{AreCellsOf}
use Rattle.cc_tests_calls.proofs.programs.values.Given as goal

abbrev pub invariant-loop-def : goal.invariant-loop-def
invariant-loop-def l = AreCellsOf (take l.def-index l.defs) l.values.items
