use Rattle.std.proofs.Common.{sym, ◌∙◌}
use Rattle.cc_job.proofs.TaskCovering.{covers_lacks}
use Rattle.cc_job.proofs.head.covers.Goals as goal

pub returns-then-not-contains : goal.returns-then-not-contains
returns-then-not-contains c =
    covers_lacks c.loop-task.task-counter c.args.tasks c.args.schedule.now c.loop-task-test.true (sym c.contains.ensures.value ∙ c.if-not-contains.true)
