use Rattle.std.proofs.Common.{refl, ◌∙◌}
use Rattle.std.proofs.lemmas.Result.{err_from_is_err_and}
use Rattle.std.specs.String.{string_bytes}
use Rattle.cc_device.specs.DeviceViews.{event_of}
use Rattle.cc_io.proofs.PassedPieces.{passed_nothing, passed_more}
use Rattle.cc_replies.specs.ReplyTexts.{inner_line}
use Rattle.cc_replay.specs.RunTexts.{event_text}
use Rattle.cc_replies.proofs.StreamedLines.{lines_passed, lines_stopped}
use Rattle.cc_replies.proofs.runs.write_events.Goals as goal

pub loop-event-init : goal.loop-event-init
loop-event-init g c = record {
  passed = passed_nothing (g.K.Sink.written c.args.sink.now) (string_bytes c.args.waiting.now);
  no_fault = refl;
}

pub returns-in_err-write_event_line-clause-streams : goal.returns-in_err-write_event_line-clause-streams
returns-in_err-write_event_line-clause-streams g c =
    let error = err_from_is_err_and c.from_residual.result c.from_residual.ensures.1 in
    let loop = c.loop-event in
    rw error.1
    (lines_stopped inner_line (event_text c.args.names.now.names.items) event_of c.args.events.now loop.event-index (g.K.Sink.written c.args.sink.now)
    (g.K.Sink.written loop.sink) (string_bytes c.args.waiting.now) (string_bytes loop.waiting) loop.invariant.passed c.event-item.result
    c.loop-event-test.true c.event-item.is (g.K.Sink.written c.write_event_line.new.sink) c.in_err-write_event_line.ensures.streams)

pub loop-event-preserved : goal.loop-event-preserved
loop-event-preserved g c =
    let loop = c.loop-event in
    record {
      passed = passed_more (λ event. inner_line (event_text c.args.names.now.names.items (event_of event))) c.args.events.now loop.event-index c.event-item.result
          c.loop-event-test.true c.event-item.is (g.K.Sink.written c.args.sink.now) (g.K.Sink.written loop.sink) (g.K.Sink.written c.write_event_line.new.sink)
          (string_bytes c.args.waiting.now) (string_bytes loop.waiting) (string_bytes c.write_event_line.new.waiting) loop.invariant.passed
          c.in_ok-write_event_line.ensures.streams;
      no_fault = c.in_ok-write_event_line.ensures.cause ∙ loop.invariant.no_fault;
    }

pub returns-clause-streams : goal.returns-clause-streams
returns-clause-streams g c =
    let loop = c.loop-event in
    lines_passed inner_line (event_text c.args.names.now.names.items) event_of c.args.events.now loop.event-index (g.K.Sink.written c.args.sink.now)
    (g.K.Sink.written loop.sink) (string_bytes c.args.waiting.now) (string_bytes loop.waiting) loop.invariant.passed c.loop-event-test.false
