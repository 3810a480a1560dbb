use Rattle.std.proofs.Common.{take}
use Rattle.cc_tasks.specs.Tasks.{HaveEnded}
use Rattle.cc_tasks.proofs.tasks.next_place.Given as goal

abbrev pub invariant-loop-place : goal.invariant-loop-place
invariant-loop-place l = HaveEnded l.tasks (take l.place l.order.items)
