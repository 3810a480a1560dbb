use Rattle.std.proofs.Common.{refl}
use Rattle.cc_tasks.proofs.Loops.{ends_more}
use Rattle.cc_tasks.proofs.tasks.ends_of.Goals as goal

pub loop-task-preserved : goal.loop-task-preserved
loop-task-preserved c =
    ends_more c.args.tasks.now c.loop-task.ends.items c.push.new.self.items c.loop-task.task-index c.task-item.result (c.end.result, c.task-item.result.steps)
    c.loop-task-test.true c.loop-task.invariant c.in_ok-push.ensures.items (c.end.ensures, refl) c.task-item.is
