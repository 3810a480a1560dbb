use Rattle.std.proofs.Common.{◌≡◌, true}
use Rattle.cc_job.specs.Jobs.{covers}
use Rattle.cc_job.proofs.head.covers.Given as goal

abbrev pub invariant-loop-task : goal.invariant-loop-task
invariant-loop-task l = covers l.task-counter l.schedule ≡ true
