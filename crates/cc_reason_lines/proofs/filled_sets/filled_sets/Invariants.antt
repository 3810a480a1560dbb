use Rattle.cc_core.specs.TermViews.{context_of}
use Rattle.cc_solve.specs.Solutions.{filling_of}
use Rattle.cc_reason_lines.proofs.FilledSets.{AreOldest}
use Rattle.cc_reason_lines.proofs.filled_sets.filled_sets.Given as goal

abbrev pub invariant-loop-position : goal.invariant-loop-position
invariant-loop-position l = AreOldest (filling_of l.filling) (context_of l.ctx) (context_of l.sets) l.position
