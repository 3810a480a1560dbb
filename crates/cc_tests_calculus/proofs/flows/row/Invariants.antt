use Rattle.cc_subty.specs.Demands.{asked_of}
use Rattle.cc_tests_calculus.proofs.RowsOfHoles.{AreFlows}
use Rattle.cc_tests_calculus.proofs.flows.row.Given as goal

abbrev pub invariant-loop-hole : goal.invariant-loop-hole
invariant-loop-hole l = AreFlows l.fn.count (asked_of l.demands)
