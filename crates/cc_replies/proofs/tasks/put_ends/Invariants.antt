use Rattle.std.proofs.Common.{◌≡◌, ◌++◌, take, map, flat_map}
use Rattle.std.specs.String.{string_bytes}
use Rattle.cc_replies.specs.ReplyTexts.{inner_line}
use Rattle.cc_replies.specs.TaskTexts.{by_task, task_end_text}
use Rattle.cc_tasks.specs.Reports.{told_end}
use Rattle.cc_replies.proofs.tasks.put_ends.Given as goal

abbrev pub invariant-loop-task : goal.invariant-loop-task
invariant-loop-task l =
    string_bytes l.out
    ≡ string_bytes l.initial.out
    ++ flat_map inner_line (by_task 0 (map (λ one. task_end_text l.names.names.items (told_end one)) (take l.task l.ends)))
