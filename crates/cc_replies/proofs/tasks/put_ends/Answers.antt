use Rattle.cc_replies.specs.ReplyTexts.{inner_line}
use Rattle.cc_replies.specs.TaskTexts.{task_end_text}
use Rattle.cc_tasks.specs.Reports.{told_end}
use Rattle.cc_replies.proofs.TaskLines.{lines_more, lines_whole}
use Rattle.cc_replies.proofs.tasks.put_ends.Goals as goal

pub loop-task-preserved : goal.loop-task-preserved
loop-task-preserved c =
    lines_more inner_line (λ one. task_end_text c.args.names.now.names.items (told_end one)) c.args.ends.now c.loop-task.task c.index-ends-task.result _ _ _
    c.loop-task-test.true c.index-ends-task.is c.loop-task.invariant c.in_ok-put_task_end.ensures

pub returns : goal.returns
returns c =
    lines_whole inner_line (task_end_text c.args.names.now.names.items) told_end c.args.ends.now c.loop-task.task _ _ c.loop-task-test.false
    c.loop-task.invariant
