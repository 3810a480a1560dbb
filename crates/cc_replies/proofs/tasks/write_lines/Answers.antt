use Rattle.std.proofs.Common.{◌++◌, List, ℕ, Bor, map, flat_map, subst}
use Rattle.std.proofs.lemmas.Result.{err_from_is_err_and}
use Rattle.std.specs.String.{string_bytes}
use Rattle.cc_io.specs.Pieces.{IsPassedOn, Streams}
use Rattle.cc_io.specs.Wholes.{AppendsFront}
use Rattle.cc_session.specs.declared.entry.Entry.{Entry}
use Rattle.cc_replies.specs.ReplyTexts.{inner_line}
use Rattle.cc_replies.specs.TaskTexts.{by_task, task_event_text, task_end_text}
use Rattle.cc_replay.specs.RunTexts.{authority_text}
use Rattle.cc_tasks.specs.Reports.{told_event, told_end}
use Rattle.cc_replies.proofs.StreamedLines.{firsts_stopped, middles_stopped, lasts_streamed}
use Rattle.cc_replies.proofs.tasks.write_lines.Goals as goal

abbrev authorities : List (List ℕ) → List (Bor Entry) → List (List ℕ)
authorities names entries = by_task 0 (map (authority_text names) (map (λ (entry : Bor Entry). entry.now.authority.items) entries))

pub returns-in_err-write_authorities-clause-streams : goal.returns-in_err-write_authorities-clause-streams
returns-in_err-write_authorities-clause-streams g c =
    let error = err_from_is_err_and c.from_residual.result c.from_residual.ensures.1 in
    let names = c.args.names.now.names.items in
    let report = c.args.report.now in
    rw error.1
    (firsts_stopped inner_line (authorities names c.args.entries.now) (map (task_event_text names) (map told_event report.trace.items))
    (by_task 0 (map (task_end_text names) (map told_end report.ends.items))) (g.K.Sink.written c.args.sink.now)
    (g.K.Sink.written c.write_authorities.new.sink) (string_bytes c.args.waiting.now) c.in_err-write_authorities.ensures.streams)

pub returns-in_err-write_task_events-clause-streams : goal.returns-in_err-write_task_events-clause-streams
returns-in_err-write_task_events-clause-streams g c =
    let error = err_from_is_err_and c.from_residual-in_err-write_task_events.result c.from_residual-in_err-write_task_events.ensures.1 in
    let names = c.args.names.now.names.items in
    let report = c.args.report.now in
    rw error.1
    (middles_stopped inner_line (authorities names c.args.entries.now) (map (task_event_text names) (map told_event report.trace.items))
    (by_task 0 (map (task_end_text names) (map told_end report.ends.items))) (g.K.Sink.written c.args.sink.now)
    (g.K.Sink.written c.write_authorities.new.sink) (string_bytes c.args.waiting.now) (string_bytes c.write_authorities.new.waiting)
    c.in_ok-write_authorities.ensures.streams (g.K.Sink.written c.write_task_events.new.sink)
    (subst (λ es. AppendsFront (g.K.Sink.written c.write_authorities.new.sink) (g.K.Sink.written c.write_task_events.new.sink)
    (string_bytes c.write_authorities.new.waiting ++ flat_map inner_line (map (task_event_text names) (map told_event es)))) c.deref.ensures.value
    c.in_err-write_task_events.ensures.streams))

pub returns-clause-streams : goal.returns-clause-streams
returns-clause-streams g c =
    let names = c.args.names.now.names.items in
    let report = c.args.report.now in
    lasts_streamed inner_line (authorities names c.args.entries.now) (map (task_event_text names) (map told_event report.trace.items))
    (by_task 0 (map (task_end_text names) (map told_end report.ends.items))) (g.K.Sink.written c.args.sink.now)
    (g.K.Sink.written c.write_authorities.new.sink) (string_bytes c.args.waiting.now) (string_bytes c.write_authorities.new.waiting)
    c.in_ok-write_authorities.ensures.streams (g.K.Sink.written c.write_task_events.new.sink) (g.K.Sink.written c.write_ends.new.sink)
    (string_bytes c.write_task_events.new.waiting) (string_bytes c.write_ends.new.waiting) c.write_ends.result
    (subst (λ es. IsPassedOn (g.K.Sink.written c.write_authorities.new.sink) (g.K.Sink.written c.write_task_events.new.sink)
    (string_bytes c.write_authorities.new.waiting) (string_bytes c.write_task_events.new.waiting)
    (flat_map inner_line (map (task_event_text names) (map told_event es)))) c.deref.ensures.value c.in_ok-write_task_events.ensures.streams)
    (subst (λ es. Streams (g.K.Sink.written c.write_task_events.new.sink) (g.K.Sink.written c.write_ends.new.sink)
    (string_bytes c.write_task_events.new.waiting) (string_bytes c.write_ends.new.waiting) c.write_ends.result
    (flat_map inner_line (by_task 0 (map (task_end_text names) (map told_end es))))) c.deref-2.ensures.value c.write_ends.ensures.streams)
