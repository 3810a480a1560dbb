use Rattle.std.proofs.Common.{◌++◌, map, flat_map, subst}
use Rattle.std.proofs.lemmas.Result.{err_from_is_err_and}
use Rattle.std.specs.String.{string_bytes}
use Rattle.cc_device.specs.DeviceViews.{event_of, end_of}
use Rattle.cc_io.specs.Pieces.{IsPassedOn}
use Rattle.cc_io.specs.Wholes.{AppendsFront}
use Rattle.cc_io.proofs.PassedPieces.{stopped_first}
use Rattle.cc_runs.specs.Runs.{Ends}
use Rattle.cc_replies.specs.ReplyTexts.{inner_line}
use Rattle.cc_replay.specs.RunTexts.{authority_text, event_text, end_text}
use Rattle.cc_replies.proofs.StreamedLines.{others_stopped, last_streamed}
use Rattle.cc_replies.proofs.runs.write_lines.Goals as goal

pub returns-in_err-write_authority_line-clause-streams : goal.returns-in_err-write_authority_line-clause-streams
returns-in_err-write_authority_line-clause-streams g c =
    let error = err_from_is_err_and c.from_residual.result c.from_residual.ensures.1 in
    rw error.1
    (stopped_first (g.K.Sink.written c.args.sink.now) (g.K.Sink.written c.write_authority_line.new.sink) (string_bytes c.args.waiting.now) _ _
    c.in_err-write_authority_line.ensures.streams)

pub returns-in_err-write_events-clause-streams : goal.returns-in_err-write_events-clause-streams
returns-in_err-write_events-clause-streams g c =
    let error = err_from_is_err_and c.from_residual-in_err-write_events.result c.from_residual-in_err-write_events.ensures.1 in
    let names = c.args.names.now.names.items in
    let report = c.args.report.now in
    rw error.1
    (others_stopped inner_line (authority_text names c.args.authority.now) (end_text names (Ends (end_of report.end)) report.steps)
    (map (event_text names) (map event_of report.trace.items)) (g.K.Sink.written c.args.sink.now) (g.K.Sink.written c.write_authority_line.new.sink)
    (string_bytes c.args.waiting.now) (string_bytes c.write_authority_line.new.waiting) c.in_ok-write_authority_line.ensures.streams
    (g.K.Sink.written c.write_events.new.sink)
    (subst (λ es. AppendsFront (g.K.Sink.written c.write_authority_line.new.sink) (g.K.Sink.written c.write_events.new.sink)
    (string_bytes c.write_authority_line.new.waiting ++ flat_map inner_line (map (event_text names) (map event_of es)))) c.deref.ensures.value
    c.in_err-write_events.ensures.streams))

pub returns-clause-streams : goal.returns-clause-streams
returns-clause-streams g c =
    let names = c.args.names.now.names.items in
    let report = c.args.report.now in
    last_streamed inner_line (authority_text names c.args.authority.now) (end_text names (Ends (end_of report.end)) report.steps)
    (map (event_text names) (map event_of report.trace.items)) (g.K.Sink.written c.args.sink.now) (g.K.Sink.written c.write_authority_line.new.sink)
    (string_bytes c.args.waiting.now) (string_bytes c.write_authority_line.new.waiting) c.in_ok-write_authority_line.ensures.streams
    (g.K.Sink.written c.write_events.new.sink) (g.K.Sink.written c.write_end_line.new.sink) (string_bytes c.write_events.new.waiting)
    (string_bytes c.write_end_line.new.waiting) c.write_end_line.result
    (subst (λ es. IsPassedOn (g.K.Sink.written c.write_authority_line.new.sink) (g.K.Sink.written c.write_events.new.sink)
    (string_bytes c.write_authority_line.new.waiting) (string_bytes c.write_events.new.waiting)
    (flat_map inner_line (map (event_text names) (map event_of es)))) c.deref.ensures.value c.in_ok-write_events.ensures.streams)
    c.write_end_line.ensures.streams
