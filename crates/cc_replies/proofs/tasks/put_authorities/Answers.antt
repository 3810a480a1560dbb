use Rattle.std.proofs.Common.{◌++◌, Bor, ap, ◌∙◌}
use Rattle.std.specs.String.{string_bytes}
use Rattle.cc_session.specs.declared.entry.Entry.{Entry}
use Rattle.cc_replies.specs.ReplyTexts.{inner_line}
use Rattle.cc_replies.specs.TaskTexts.{of_task}
use Rattle.cc_replay.specs.RunTexts.{authority_text}
use Rattle.cc_replies.proofs.TaskLines.{lines_more, lines_whole}
use Rattle.cc_replies.proofs.tasks.put_authorities.Goals as goal

pub loop-task-preserved : goal.loop-task-preserved
loop-task-preserved c =
    lines_more inner_line (λ (entry : Bor Entry). authority_text c.args.names.now.names.items entry.now.authority.items) c.args.entries.now c.loop-task.task
    c.index-entries-task.result _ _ _ c.loop-task-test.true c.index-entries-task.is c.loop-task.invariant
    (c.in_ok-put_task_authority.ensures
    ∙ ap (λ a. string_bytes c.loop-task.out ++ inner_line (of_task c.loop-task.task (authority_text c.args.names.now.names.items a))) c.deref.ensures.value)

pub returns : goal.returns
returns c =
    lines_whole inner_line (authority_text c.args.names.now.names.items) (λ (entry : Bor Entry). entry.now.authority.items) c.args.entries.now c.loop-task.task
    _ _ c.loop-task-test.false c.loop-task.invariant
