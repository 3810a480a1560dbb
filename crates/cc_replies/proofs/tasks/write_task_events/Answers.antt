use Rattle.std.proofs.Common.{refl, ◌∙◌}
use Rattle.std.proofs.lemmas.Result.{err_from_is_err_and}
use Rattle.std.specs.String.{string_bytes}
use Rattle.cc_tasks.specs.Reports.{told_event}
use Rattle.cc_io.proofs.PassedPieces.{passed_nothing, passed_more}
use Rattle.cc_replies.specs.ReplyTexts.{inner_line}
use Rattle.cc_replies.specs.TaskTexts.{task_event_text}
use Rattle.cc_replies.proofs.StreamedLines.{lines_passed, lines_stopped}
use Rattle.cc_replies.proofs.tasks.write_task_events.Goals as goal

pub loop-one-init : goal.loop-one-init
loop-one-init g c = record {
  passed = passed_nothing (g.K.Sink.written c.args.sink.now) (string_bytes c.args.waiting.now);
  no_fault = refl;
}

pub returns-in_err-write_task_event-clause-streams : goal.returns-in_err-write_task_event-clause-streams
returns-in_err-write_task_event-clause-streams g c =
    let error = err_from_is_err_and c.from_residual.result c.from_residual.ensures.1 in
    let loop = c.loop-one in
    rw error.1
    (lines_stopped inner_line (task_event_text c.args.names.now.names.items) told_event c.args.events.now loop.one-index (g.K.Sink.written c.args.sink.now)
    (g.K.Sink.written loop.sink) (string_bytes c.args.waiting.now) (string_bytes loop.waiting) loop.invariant.passed c.one-item.result
    c.loop-one-test.true c.one-item.is (g.K.Sink.written c.write_task_event.new.sink) c.in_err-write_task_event.ensures.streams)

pub loop-one-preserved : goal.loop-one-preserved
loop-one-preserved g c =
    let loop = c.loop-one in
    record {
      passed = passed_more (λ one. inner_line (task_event_text c.args.names.now.names.items (told_event one))) c.args.events.now loop.one-index c.one-item.result
          c.loop-one-test.true c.one-item.is (g.K.Sink.written c.args.sink.now) (g.K.Sink.written loop.sink) (g.K.Sink.written c.write_task_event.new.sink)
          (string_bytes c.args.waiting.now) (string_bytes loop.waiting) (string_bytes c.write_task_event.new.waiting) loop.invariant.passed
          c.in_ok-write_task_event.ensures.streams;
      no_fault = c.in_ok-write_task_event.ensures.cause ∙ loop.invariant.no_fault;
    }

pub returns-clause-streams : goal.returns-clause-streams
returns-clause-streams g c =
    let loop = c.loop-one in
    lines_passed inner_line (task_event_text c.args.names.now.names.items) told_event c.args.events.now loop.one-index (g.K.Sink.written c.args.sink.now)
    (g.K.Sink.written loop.sink) (string_bytes c.args.waiting.now) (string_bytes loop.waiting) loop.invariant.passed c.loop-one-test.false
