use Rattle.std.proofs.Common.{◌≤◌, length}
use Rattle.cc_sets.specs.Marked.{IsClear}
use Rattle.cc_tests_calculus.proofs.subcapturing.repeated.Given as goal

abbrev pub invariant-loop-index : goal.invariant-loop-index
invariant-loop-index g l = record { room : length l.ctx ≤ length l.marks; clear : IsClear l.marks }
