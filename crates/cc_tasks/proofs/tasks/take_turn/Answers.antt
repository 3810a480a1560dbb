use Rattle.std.proofs.Common.{refl, subst, sym}
use Rattle.std.proofs.lemmas.Result.{IfOk-weaker}
use Rattle.cc_tasks.specs.Tasks.{HasEnded}
use Rattle.cc_tasks.proofs.Loops.{task_there, awaited_within}
use Rattle.cc_tasks.proofs.tasks.take_turn.Goals as goal

pub step-requires-clause-running : goal.step-requires-clause-running
step-requires-clause-running c =
    let tasks = c.args.tasks.now.items in
    let there = task_there tasks c.args.number c.index_mut.result.now (awaited_within tasks c.args.number c.requires.running) c.index_mut.ensures.value in
    λ final. c.requires.running (subst HasEnded (sym there) final)

pub returns-clause-turn : goal.returns-clause-turn
returns-clause-turn c =
    let tasks = c.args.tasks.now.items in
    let there = task_there tasks c.args.number c.index_mut.result.now (awaited_within tasks c.args.number c.requires.running) c.index_mut.ensures.value in
    IfOk-weaker c.step.result _ _ (λ event step. record { before = c.index_mut.result.now; after = c.step.new.self; there = there; step = step; others = refl })
    c.step.ensures.step
