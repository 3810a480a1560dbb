use Rattle.std.proofs.Common.{◌+◌, ◌*◌, length}
use Rattle.cc_solve.specs.Solutions.{filling_of}
use Rattle.cc_solve.specs.Spreading.{all_lacking}
use Rattle.cc_solve.proofs.Saturation.{Saturates, all_elements}
use Rattle.cc_solve.proofs.spreading.saturate.Given as goal

abbrev pub invariant-loop-from : goal.invariant-loop-from
invariant-loop-from l = Saturates (filling_of l.flows) l.fn.sets l.sets l.queue.items

abbrev pub decreases-loop-from : goal.decreases-loop-from
decreases-loop-from l = 2 * all_lacking (all_elements l.fn.sets) l.sets + length l.queue.items
