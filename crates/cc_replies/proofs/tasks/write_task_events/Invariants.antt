use Rattle.std.proofs.Common.{◌≡◌, take, flat_map}
use Rattle.std.specs.String.{string_bytes}
use Rattle.cc_tasks.specs.Reports.{told_event}
use Rattle.cc_io.specs.Pieces.{IsPassedOn}
use Rattle.cc_replies.specs.ReplyTexts.{inner_line}
use Rattle.cc_replies.specs.TaskTexts.{task_event_text}
use Rattle.cc_replies.proofs.tasks.write_task_events.Given as goal

-- the lines of the events up to here are appended or wait, and no write failed
abbrev pub invariant-loop-one : goal.invariant-loop-one
invariant-loop-one g l = record {
  passed : IsPassedOn (g.K.Sink.written l.initial.sink) (g.K.Sink.written l.sink) (string_bytes l.initial.waiting) (string_bytes l.waiting)
      (flat_map (λ one. inner_line (task_event_text l.names.names.items (told_event one))) (take l.one-index l.events));
  no_fault : g.K.Sink.faults l.sink ≡ g.K.Sink.faults l.initial.sink;
}
