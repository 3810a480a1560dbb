use Rattle.std.proofs.Common.{◌≡◌, ◌++◌, take, map, flat_map}
use Rattle.std.specs.String.{string_bytes}
use Rattle.cc_replies.specs.ReplyTexts.{inner_line}
use Rattle.cc_replies.specs.TaskTexts.{by_task}
use Rattle.cc_replay.specs.RunTexts.{authority_text}
use Rattle.cc_replies.proofs.tasks.put_authorities.Given as goal

abbrev pub invariant-loop-task : goal.invariant-loop-task
invariant-loop-task l =
    string_bytes l.out
    ≡ string_bytes l.initial.out
    ++ flat_map inner_line (by_task 0 (map (λ entry. authority_text l.names.names.items entry.now.authority.items) (take l.task l.entries)))
