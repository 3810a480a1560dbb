use Rattle.std.proofs.Common.{◌++◌, map, refl, sym, subst, ◌∙◌}
use Rattle.std.proofs.lemmas.List.Folds.{flat_map-map}
use Rattle.std.proofs.lemmas.Result.{err_from_is_err_and}
use Rattle.std.specs.String.{string_bytes}
use Rattle.cc_io.specs.Pieces.{IsPassedOn}
use Rattle.cc_io.specs.Wholes.{AppendsFront}
use Rattle.cc_io.proofs.PassedPieces.{passed_nothing, passed_more, passed_whole, stopped_at}
use Rattle.cc_replies.specs.ReplyTexts.{inner_line}
use Rattle.cc_why.proofs.writing.write_words.Goals as goal

pub loop-line-init : goal.loop-line-init
loop-line-init g c = record {
  passed = passed_nothing (g.K.Sink.written c.args.sink.now) (string_bytes c.args.waiting.now);
  no_fault = refl;
}

pub returns-in_err-write_line-clause-streams : goal.returns-in_err-write_line-clause-streams
returns-in_err-write_line-clause-streams g c =
    let error = err_from_is_err_and c.from_residual.result c.from_residual.ensures.1 in
    let loop = c.loop-line in
    rw error.1
    (subst (λ t. AppendsFront (g.K.Sink.written c.args.sink.now) (g.K.Sink.written c.write_line.new.sink) (string_bytes c.args.waiting.now ++ t))
    (sym (flat_map-map inner_line string_bytes c.args.lines.now))
    (stopped_at (λ line. inner_line (string_bytes line)) c.args.lines.now loop.line-index c.line-item.result c.loop-line-test.true c.line-item.is
    (g.K.Sink.written c.args.sink.now) (g.K.Sink.written loop.sink) (g.K.Sink.written c.write_line.new.sink) (string_bytes c.args.waiting.now)
    (string_bytes loop.waiting) (string_bytes c.write_line.new.waiting) loop.invariant.passed
    (subst (λ t. AppendsFront (g.K.Sink.written loop.sink) (g.K.Sink.written c.write_line.new.sink) (string_bytes loop.waiting ++ inner_line t))
    c.as_str.ensures.value c.in_err-write_line.ensures.streams)))

pub loop-line-preserved : goal.loop-line-preserved
loop-line-preserved g c =
    let loop = c.loop-line in
    record {
      passed = passed_more (λ line. inner_line (string_bytes line)) c.args.lines.now loop.line-index c.line-item.result c.loop-line-test.true c.line-item.is
          (g.K.Sink.written c.args.sink.now) (g.K.Sink.written loop.sink) (g.K.Sink.written c.write_line.new.sink) (string_bytes c.args.waiting.now)
          (string_bytes loop.waiting) (string_bytes c.write_line.new.waiting) loop.invariant.passed
          (subst (λ t. IsPassedOn (g.K.Sink.written loop.sink) (g.K.Sink.written c.write_line.new.sink) (string_bytes loop.waiting)
          (string_bytes c.write_line.new.waiting) (inner_line t)) c.as_str.ensures.value c.in_ok-write_line.ensures.streams);
      no_fault = c.in_ok-write_line.ensures.cause ∙ loop.invariant.no_fault;
    }

pub returns-clause-streams : goal.returns-clause-streams
returns-clause-streams g c =
    let loop = c.loop-line in
    subst (IsPassedOn (g.K.Sink.written c.args.sink.now) (g.K.Sink.written loop.sink) (string_bytes c.args.waiting.now) (string_bytes loop.waiting))
    (sym (flat_map-map inner_line string_bytes c.args.lines.now))
    (passed_whole (λ line. inner_line (string_bytes line)) c.args.lines.now loop.line-index c.loop-line-test.false (g.K.Sink.written c.args.sink.now)
    (g.K.Sink.written loop.sink) (string_bytes c.args.waiting.now) (string_bytes loop.waiting) loop.invariant.passed)
