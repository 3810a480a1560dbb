use Rattle.cc_sets.specs.Marking.{MarksThose}
use Rattle.cc_solve.specs.Solutions.{filling_of}
use Rattle.cc_solve.proofs.FilledMarkings.{IsFilledMissing}
use Rattle.cc_solve.proofs.judging.mark_filled.Given as goal

abbrev pub invariant-loop-elem : goal.invariant-loop-elem
invariant-loop-elem l = MarksThose (IsFilledMissing (filling_of l.filling) l.yielded l.right) l.fn.marks l.marks l.all
