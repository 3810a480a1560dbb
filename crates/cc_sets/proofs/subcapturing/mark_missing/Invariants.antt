use Rattle.cc_sets.specs.Marking.{MarksThose}
use Rattle.cc_sets.proofs.Markings.{IsListedMissing}
use Rattle.cc_sets.proofs.subcapturing.mark_missing.Given as goal

abbrev pub invariant-loop-elem : goal.invariant-loop-elem
invariant-loop-elem l = MarksThose (IsListedMissing l.yielded l.right) l.fn.marks l.marks l.all
