use Rattle.std.proofs.Common.{take}
use Rattle.std.specs.List.{AllZip}
use Rattle.cc_tasks.specs.Tasks.{IsEndOf}
use Rattle.cc_tasks.proofs.tasks.ends_of.Given as goal

abbrev pub invariant-loop-task : goal.invariant-loop-task
invariant-loop-task l = AllZip IsEndOf (take l.task-index l.tasks) l.ends.items
