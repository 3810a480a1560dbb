use Rattle.cc_tasks.proofs.Loops.{ended_there, ended_past}
use Rattle.cc_tasks.proofs.tasks.has_ended.Goals as goal

pub returns-then-place-tasks : goal.returns-then-place-tasks
returns-then-place-tasks c =
    ended_there c.args.tasks.now c.args.number c.index-tasks-place.result c.is_final.result c.if-place-tasks.true c.is_final.ensures

pub returns : goal.returns
returns c = ended_past c.args.tasks.now c.args.number c.if-place-tasks.false
